-- By the kind of the target.
use Rattle.std.proofs.Common.{ap, sym}
use Rattle.print.proofs.Laid.{as_text, nothing}
use Rattle.session.specs.declared.LookupTarget.{LookupTarget}
use Rattle.lines.specs.Lines.{record_text}
use Rattle.lines.proofs.handed_out.Goals as goal

pub returns-in-Window : goal.returns-in-Window
unfolding record_text
returns-in-Window c = as_text (ap (λ (t : LookupTarget). record_text t c.args.bytes.now) (sym c.in-Window.is)) c.line.ensures

pub returns-in-Notification : goal.returns-in-Notification
unfolding record_text
returns-in-Notification c =
    as_text (ap (λ (t : LookupTarget). record_text t c.args.bytes.now) (sym c.in-Notification.is)) c.line-in-Notification.ensures

pub returns-in-Cell : goal.returns-in-Cell
unfolding record_text
returns-in-Cell c = as_text (ap (λ (t : LookupTarget). record_text t c.args.bytes.now) (sym c.in-Cell.is)) c.cell.ensures

pub returns-in-Desktop : goal.returns-in-Desktop
unfolding record_text
returns-in-Desktop c =
    as_text (ap (λ (t : LookupTarget). record_text t c.args.bytes.now) (sym c.in-Desktop.is)) c.line-in-Desktop.ensures

pub returns-in-Windows : goal.returns-in-Windows
unfolding record_text
returns-in-Windows c =
    as_text (ap (λ (t : LookupTarget). record_text t c.args.bytes.now) (sym c.in-Windows.is)) (nothing c.args.out.now c.args.at)

pub returns-in-Notifications : goal.returns-in-Notifications
unfolding record_text
returns-in-Notifications c =
    as_text (ap (λ (t : LookupTarget). record_text t c.args.bytes.now) (sym c.in-Notifications.is)) (nothing c.args.out.now c.args.at)

pub returns-in-Shares : goal.returns-in-Shares
unfolding record_text
returns-in-Shares c = as_text (ap (λ (t : LookupTarget). record_text t c.args.bytes.now) (sym c.in-Shares.is)) c.shared.ensures
