-- The message type of a kind of records. Assumes nothing.
use Rattle.std.specs.Prelude.{ℕ, ◌≡◌, refl}
use Rattle.pdu.specs.declared.Pdu.{Pdu}
use Rattle.pdu.specs.declared.Pdu.TheVariants.{Execute, Activate, SystemParameters, SystemCommand, Handshake, NotifyEvent, WindowMove, MoveSize, MinMaxInfo, ClientInformation, SystemMenu, GetApplicationId, ApplicationIdResponse, HandshakeEx, ExecuteResult}
use Rattle.pdu.specs.Records.{kind_of}

-- each record that comes from a value of a kind is of type k
abbrev pub OfType : {A : Type 0} → (A → Pdu) → ℕ → Type 0
OfType {A} record_from k = (x : A) → kind_of (record_from x) ≡ k

pub execute : OfType Execute 0x01
unfolding kind_of
execute x = refl

pub activate : OfType Activate 0x02
unfolding kind_of
activate x = refl

pub system_parameters : OfType SystemParameters 0x03
unfolding kind_of
system_parameters x = refl

pub system_command : OfType SystemCommand 0x04
unfolding kind_of
system_command x = refl

pub handshake : OfType Handshake 0x05
unfolding kind_of
handshake x = refl

pub notify_event : OfType NotifyEvent 0x06
unfolding kind_of
notify_event x = refl

pub window_move : OfType WindowMove 0x08
unfolding kind_of
window_move x = refl

pub move_size : OfType MoveSize 0x09
unfolding kind_of
move_size x = refl

pub min_max_info : OfType MinMaxInfo 0x0A
unfolding kind_of
min_max_info x = refl

pub client_information : OfType ClientInformation 0x0B
unfolding kind_of
client_information x = refl

pub system_menu : OfType SystemMenu 0x0C
unfolding kind_of
system_menu x = refl

pub get_application_id : OfType GetApplicationId 0x0E
unfolding kind_of
get_application_id x = refl

pub application_id_response : OfType ApplicationIdResponse 0x0F
unfolding kind_of
application_id_response x = refl

pub handshake_ex : OfType HandshakeEx 0x13
unfolding kind_of
handshake_ex x = refl

pub execute_result : OfType ExecuteResult 0x80
unfolding kind_of
execute_result x = refl
