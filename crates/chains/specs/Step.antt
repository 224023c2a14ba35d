-- One piece into one chain and its part of the buffer (RULES 14; 02 M-106). No other chain is named here.
use Rattle.std.specs.Prelude.{ℕ, ◌+◌, Bool, true, false, cond, not, ◌||◌, List, length, eqb, leb, ltb}
use Rattle.std.proofs.Math.Seq.{paste}
use Rattle.stream.specs.Answers.{out_of_turn, sent, taken_in, too_long, too_many_packets}
use Rattle.piece.specs.declared.Format.{Format}
use Rattle.piece.specs.declared.Format.TheVariants.{Complete, End, Start}
use Rattle.piece.specs.Piece.{Piece}
use Rattle.chains.specs.declared.Chain.{Chain}
use Rattle.chains.specs.declared.part.Stepped.{Stepped}

-- A chain of which nothing is known: none is open, and none was. So it is after a drop.
abbrev pub fresh : Chain
fresh = record { length = 0; shared = 0; packets = 0 }

-- none is open
abbrev pub closed : Chain → Bool
closed c = eqb c.packets 0

-- the places at which a message begins, and those at which it is finished; a complete piece does both
abbrev pub begins_at : Format → Bool
begins_at Complete = true
begins_at Start = true
begins_at _ = false

abbrev pub finishes_at : Format → Bool
finishes_at Complete = true
finishes_at End = true
finishes_at _ = false

abbrev pub begins : Piece → Bool
begins x = begins_at x.format

abbrev pub finishes : Piece → Bool
finishes x = finishes_at x.format

-- where a piece's bytes go: behind those of an open chain, else to the part's beginning
unfoldable pub base_of : Chain → ℕ
base_of c = cond (closed c) 0 c.length

-- A piece that begins a message while one is open, or goes on where none is; or that has other shared fields than the
-- open chain.
unfoldable pub strays : Chain → Piece → Bool
strays c x = cond (closed c) (not (begins x)) (begins x || not (eqb c.shared x.shared))

-- the most packets that a chain may have
abbrev pub most : ℕ
most = 32

-- the answer, in the order 15, 16, 18; else 0 where the message is finished, and 1. The part has n bytes.
unfoldable pub verdict_by : Bool → ℕ → ℕ → ℕ → ℕ → Bool → ℕ
verdict_by stray packets base n count last =
    cond stray out_of_turn
    (cond (leb most packets) too_many_packets
    (cond (ltb n (base + count)) too_long
    (cond last sent taken_in)))

abbrev pub verdict : Chain → ℕ → Piece → ℕ
verdict c n x = verdict_by (strays c x) c.packets (base_of c) n x.count (finishes x)

-- the chain with the piece in it; where that finishes it, its length and its shared fields stay to be read
unfoldable pub grown : Chain → Piece → Chain
grown c x =
    record {
      length = base_of c + x.count;
      shared = x.shared;
      packets = cond (finishes x) 0 (cond (closed c) 1 (c.packets + x.adds));
    }

-- the chain after a refusal: dropped, if one was open
unfoldable pub refused_by : ℕ → Chain → Chain
refused_by a c = cond (eqb a out_of_turn) (cond (closed c) c fresh) fresh

-- an answer of 0 or 1: the piece is taken
abbrev pub taken : ℕ → Bool
taken a = leb a taken_in

-- what the step on one chain answers, and the chain after it
unfoldable pub step_of : Chain → ℕ → Piece → Stepped
step_of c n x =
    cond (taken (verdict c n x)) (record { answer = verdict c n x; chain = grown c x })
    (record { answer = verdict c n x; chain = refused_by (verdict c n x) c })

-- the part: with the piece's bytes behind those collected, or as it stood
unfoldable pub part_of : Chain → List ℕ → Piece → List ℕ
part_of c part x = cond (taken (verdict c (length part) x)) (paste part (base_of c) x.bytes x.count) part
