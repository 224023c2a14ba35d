-- What a packet is answered, case by case (RULES 14; 02 M-106).
use Rattle.std.specs.Prelude.{ℕ, ◌+◌, ◌≡◌, Bool, cond, not, ◌&&◌, ◌||◌, List, [], ◌∷◌, length, eqb, leb, ltb}
use Rattle.ump.specs.Word.{message_type}
use Rattle.ump.specs.Packet.{first, packet, second}
use Rattle.fields.specs.Check.{checked_fields, good_fields, good_status}
use Rattle.stream.specs.Answers.{bad_address, bad_data, bad_status, cut_packet, no_table, out_of_turn, reserved_type}
use Rattle.stream.specs.Answers.{taken_in, too_long, too_many_packets}
use Rattle.stream.specs.Report.{place_told}
use Rattle.screen.specs.Screen.{reserved}
use Rattle.piece.specs.Piece.{address_of, exclusive, flex, piece_in}
use Rattle.chains.specs.declared.Chain.{Chain}
use Rattle.chains.specs.Step.{begins, finishes, most}
use Rattle.chains.specs.Collect.{chain_at, chain_of, collected_of, share, whole_list}
use Rattle.stream.specs.Cases.{Case, case, numbered}

-- a chain that has begun
abbrev pub is_open : Chain → Bool
is_open c = not (eqb c.packets 0)

-- of the two sorts that have chains, by the first word
abbrev pub has_chain : ℕ → Bool
has_chain w = eqb (message_type w) exclusive || eqb (message_type w) flex

-- The cases of a packet p where its chain is c and a part has n bytes, in their order: 3, 4, 6 and 7; 1 for a packet of
-- another type; 17, 15, 16 and 18; and 1 for a piece that does not finish its message.
abbrev pub cases_at : Chain → ℕ → List ℕ → List Case
cases_at c n p =
    let w = first p in
    let x = piece_in p in
    case cut_packet (eqb (length p) 0)
    ∷ case reserved_type (reserved (message_type w))
    ∷ case bad_status (not (good_status w))
    ∷ case bad_data (not (good_fields (checked_fields w (second p))))
    ∷ case taken_in (not (has_chain w))
    ∷ case bad_address (eqb (message_type w) flex && leb 2 (address_of w))
    ∷ case out_of_turn (cond (is_open c) (begins x || not (eqb c.shared x.shared)) (not (begins x)))
    ∷ case too_many_packets (is_open c && leb most c.packets)
    ∷ case too_long (ltb n (cond (is_open c) c.length 0 + x.count))
    ∷ case taken_in (not (finishes x))
    ∷ []

-- and first of all 10, where the list of chains is not one of 32
abbrev pub cases_over : List Chain → List ℕ → List ℕ → List Case
cases_over cs b s =
    case no_table (not (eqb (length cs) whole_list)) ∷ cases_at (chain_at (chain_of s) cs) (share b) (packet s)

-- Each number is answered exactly in its case, and 0 where none of them holds; the words read are the packet's, of
-- which there are none where it is cut or the list is not whole; and a place is told exactly with 7.
pub record InOrder : Type 0 where
  pub answers : (cs : List Chain) (b s : List ℕ) → (collected_of cs b s).answer ≡ numbered (cases_over cs b s)
  pub reads : (cs : List Chain) (b s : List ℕ)
      → (collected_of cs b s).read ≡ cond (eqb (length cs) whole_list) (length (packet s)) 0
  pub places : (cs : List Chain) (b s : List ℕ)
      → (collected_of cs b s).place ≡ place_told (collected_of cs b s).answer (packet s)
