-- Each answer of the sockets exactly in its case, in the order of the request (RULES 12.3 and 12.4; 02 M-100), and what
-- it leaves.
use Rattle.std.specs.Prelude.{ℕ, ◌≡◌, Bool, true, not, ◌&&◌, ◌||◌, List, [], ◌∷◌, eqb, leb, ltb, get_or, length}
use Rattle.ump.specs.Word.{message_type}
use Rattle.ump.specs.Packet.{first, packet, second}
use Rattle.fields.specs.Check.{checked_fields, good_fields, good_status}
use Rattle.stream.specs.Answers.{bad_data, bad_status, cut_off, cut_packet, dropped, no_room, not_for_cable, not_sound}
use Rattle.stream.specs.Answers.{out_of_range, reserved_type, sent, taken_in}
use Rattle.screen.specs.Screen.{reserved}
use Rattle.cable.specs.declared.Cable.{Cable}
use Rattle.cable.specs.State.{sound}
use Rattle.cable.specs.Hearing.{Call, serving}
use Rattle.inlet.specs.Inlet.{call_in, one_in}
use Rattle.outlet.specs.Outlet.{bytes_of, one_out, ours}
use Rattle.stream.specs.Cases.{Case, case, numbered}

-- a status byte below F8
abbrev pub status_byte : ℕ → Bool
status_byte b = leb 0x80 b && ltb b 0xF8

-- an exclusive is open, and a status byte comes that is not its end
abbrev pub cuts_off : Cable → ℕ → Bool
cuts_off s b = eqb s.status 0xF0 && (status_byte b && not (eqb b 0xF7))

-- F9 and FD; a data byte that belongs to no status; F4, F5 and F7 where nothing is open; a shorter message that is open
-- where a status byte comes
abbrev pub drops_at : Cable → ℕ → Bool
drops_at s b =
    (eqb b 0xF9 || eqb b 0xFD)
    || ((ltb b 0x80 && (not (eqb s.status 0xF0) && eqb (serving s) 0))
    || (status_byte b
    && ((eqb s.status 0 && (eqb b 0xF4 || (eqb b 0xF5 || eqb b 0xF7)))
    || (not (eqb s.status 0) && not (eqb s.status 0xF0)))))

-- in: 24, 8, 3; then 9, where what is sent has no room; then 12, 11, 1; and else 0
abbrev pub cases_in : ℕ → ℕ → Cable → List ℕ → List Case
cases_in g room s bs =
    case out_of_range (ltb 15 g)
    ∷ case not_sound (not (sound s))
    ∷ case cut_packet (eqb (length bs) 0)
    ∷ case no_room (ltb room (length (call_in s g bs).sends))
    ∷ case cut_off (cuts_off s (get_or bs 0 0))
    ∷ case dropped (drops_at s (get_or bs 0 0))
    ∷ case taken_in (eqb (length (call_in s g bs).sends) 0)
    ∷ []

-- out: 24, 3, 4, 25, 6, 7, 9; then 1, where a packet has no bytes; and else 0
abbrev pub cases_out : ℕ → ℕ → List ℕ → List Case
cases_out g room ws =
    let p = packet ws in
    case out_of_range (ltb 15 g)
    ∷ case cut_packet (eqb (length p) 0)
    ∷ case reserved_type (reserved (message_type (first p)))
    ∷ case not_for_cable (not (ours g (first p)))
    ∷ case bad_status (not (good_status (first p)))
    ∷ case bad_data (not (good_fields (checked_fields (first p) (second p))))
    ∷ case no_room (ltb room (length (bytes_of (first p) (second p))))
    ∷ case taken_in (eqb (length (bytes_of (first p) (second p))) 0)
    ∷ []

-- 24, 8, 3 and 9 change nothing; 1 and 11 send nothing; 0 and 1 read the byte, and 12 leaves it
pub record LeavesIn (s : Cable) (c : Call) : Type 0 where
  pub untouched : (eqb c.answer out_of_range || (eqb c.answer not_sound || (eqb c.answer cut_packet
      || eqb c.answer no_room))) ≡ true → (c.read ≡ 0) × (c.sends ≡ []) × (c.after ≡ s)
  pub quiet : (eqb c.answer taken_in || eqb c.answer dropped) ≡ true → c.sends ≡ []
  pub reads : (eqb c.answer sent || eqb c.answer taken_in) ≡ true → c.read ≡ 1
  pub unread : eqb c.answer cut_off ≡ true → (c.read ≡ 0) × (length c.sends ≡ 2)

pub record SocketRefusals : Type 0 where
  pub into : (g room : ℕ) (s : Cable) (bs : List ℕ) → (one_in g room s bs).answer ≡ numbered (cases_in g room s bs)
  pub leaves : (g room : ℕ) (s : Cable) (bs : List ℕ) → LeavesIn s (one_in g room s bs)
  pub out : (g room : ℕ) (ws : List ℕ) → (one_out g room ws).answer ≡ numbered (cases_out g room ws)
