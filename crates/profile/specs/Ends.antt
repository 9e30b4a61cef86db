-- Which end sends a message: by its type, and system parameters by their setting. Assumes nothing.
use Rattle.std.specs.Prelude.{ℕ, Bool, not, List, [], ◌∷◌, eqb, get_or}
use Rattle.wire.specs.Tests.{pick, either}
use Rattle.pdu.specs.declared.Pdu.{Pdu}
use Rattle.pdu.specs.Layout.{one_of}
use Rattle.pdu.specs.Records.{kind_of, nums_of}

-- the types that only a server sends: HandshakeEx, Move/Size, Min Max Info, Application ID Response, Execute Result
abbrev pub server_types : List ℕ
server_types = 0x13 ∷ 0x09 ∷ 0x0A ∷ 0x0F ∷ 0x80 ∷ []

-- the settings that a server sends: screen saver active, screen saver secure
abbrev pub server_settings : List ℕ
server_settings = 0x11 ∷ 0x77 ∷ []

-- the type that both ends send: Handshake
abbrev pub handshake : ℕ
handshake = 0x05

-- only a server sends a message of type k whose first number is c
unfoldable pub server_only : ℕ → ℕ → Bool
server_only k c = pick (eqb k 0x03) (one_of c server_settings) (one_of k server_types)

-- reading takes what a server sends, writing all that not only a server sends
abbrev pub read_taken : ℕ → ℕ → Bool
read_taken k c = either (eqb k handshake) (server_only k c)

abbrev pub write_taken : ℕ → ℕ → Bool
write_taken k c = not (server_only k c)

-- the same of a record
abbrev pub reads : Pdu → Bool
reads p = read_taken (kind_of p) (get_or (nums_of p) 0 0)

abbrev pub writes : Pdu → Bool
writes p = write_taken (kind_of p) (get_or (nums_of p) 0 0)
