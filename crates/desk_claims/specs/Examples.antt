-- The worked examples of the request, the ends of every range and the order of the refusals, as one statement over one
-- list (02 M-110).
use Rattle.std.specs.Prelude.{ℕ, ◌≡◌, true, false, List, [], ◌∷◌, map, negsuc, pos, Option, Some, None, Result, Ok, Err}
use Rattle.std.specs.Float.{fin}
use Rattle.std.specs.Result.{result_ok}
use Rattle.stream.specs.Answers.{answered, bad_range, not_sounding}
use Rattle.pitch.specs.declared.Shown.{Shown}
use Rattle.pitch.specs.declared.Shown.TheVariants.{Number, Pitch725, Pitch79}
use Rattle.tuning.specs.declared.NotShown.{NotShown}
use Rattle.tuning.specs.Desk.{answer_at, answer_of, fresh}
use Rattle.desk_claims.specs.History.{heard_all}

-- the number of an answer, and what it shows
pub record Answer : Type 0 where
  pub answer : ℕ
  pub shown : Option Shown

abbrev pub number_of : Result Shown NotShown → ℕ
number_of (Ok shown) = answered
number_of (Err why) = answer_of why

abbrev pub told : Result Shown NotShown → Answer
told r = record { answer = number_of r; shown = result_ok r }

-- What is answered, and what has to be.
pub record Example : Type 0 where
  pub gives : Answer
  pub should : Answer

-- of a note after some packets of group 0, channel 0, with a range
abbrev pub example : List (List ℕ) → ℕ → ℕ → ℕ → ℕ → Option Shown → Example
example ps note units cents answer shown =
    record {
      gives = told (answer_at (heard_all (fresh (record { 0 = 0 }) (record { 0 = 0 })) ps) note units cents);
      should = record { answer = answer; shown = shown };
    }

-- Note On without and with Pitch 7.9, Note Off, controller 123, Pitch 7.25 and bend
abbrev pub on : ℕ → List ℕ
on w = w ∷ 0x80000000 ∷ []

abbrev pub bend : ℕ → List ℕ
bend v = 0x40E00000 ∷ v ∷ []

-- 69.25 and 70.25; then notes, bends and ranges at their ends; Pitch 7.25 and Pitch 7.9 at theirs; one over the other;
-- a silent Note On; what ends a note; and the refusals
unfoldable pub examples : List Example
examples =
    example ((0x40904503 ∷ 0x80008A80 ∷ []) ∷ []) 69 2 0 answered (Some (Pitch79 (fin false 277 (negsuc 1))))
    ∷ example ((0x40904503 ∷ 0x80008A80 ∷ []) ∷ bend 0xC0000000 ∷ []) 69 2 0 answered
    (Some (Pitch79 (fin false 281 (negsuc 1))))
    ∷ example (on 0x40900000 ∷ bend 0 ∷ []) 0 127 0 answered (Some (Number (fin true 127 (pos 0))))
    ∷ example (on 0x40900000 ∷ bend 0 ∷ []) 0 0 0 answered (Some (Number (fin false 0 (pos 0))))
    ∷ example (on 0x40907F00 ∷ bend 0 ∷ []) 127 127 0 answered (Some (Number (fin false 0 (pos 0))))
    ∷ example (on 0x40907F00 ∷ bend 0xFFFFFFFF ∷ []) 127 127 0 answered
    (Some (Number (fin false 545460846465 (negsuc 30))))
    ∷ example (on 0x40900500 ∷ (0x40000503 ∷ 0 ∷ []) ∷ []) 5 127 0 answered (Some (Pitch725 (fin false 0 (pos 0))))
    ∷ example ((0x40000503 ∷ 0xFFFFFFFF ∷ []) ∷ on 0x40900500 ∷ []) 5 0 0 answered
    (Some (Pitch725 (fin false 4294967295 (negsuc 24))))
    ∷ example ((0x40000503 ∷ 0xFFFFFFFF ∷ []) ∷ on 0x40900500 ∷ bend 0xFFFFFFFF ∷ []) 5 127 0 answered
    (Some (Pitch725 (fin false 547608330049 (negsuc 30))))
    ∷ example ((0x40900503 ∷ 0x80000000 ∷ []) ∷ bend 0 ∷ []) 5 127 0 answered (Some (Pitch79 (fin true 127 (pos 0))))
    ∷ example ((0x40900503 ∷ 0x8000FFFF ∷ []) ∷ []) 5 127 0 answered (Some (Pitch79 (fin false 65535 (negsuc 8))))
    ∷ example ((0x40903C03 ∷ 0x80007A00 ∷ []) ∷ (0x40003C03 ∷ 0 ∷ []) ∷ []) 60 2 0 answered
    (Some (Pitch79 (fin false 61 (pos 0))))
    ∷ example ((0x40903C03 ∷ 0x80007A00 ∷ []) ∷ (0x40803C00 ∷ 0 ∷ []) ∷ on 0x40903C00 ∷ []) 60 2 0 answered
    (Some (Number (fin false 15 (pos 2))))
    ∷ example ((0x40903D00 ∷ 0 ∷ []) ∷ []) 61 2 0 answered (Some (Number (fin false 61 (pos 0))))
    ∷ example (on 0x40903C00 ∷ (0x40803C00 ∷ 0 ∷ []) ∷ []) 60 2 0 not_sounding None
    ∷ example (on 0x40903C00 ∷ (0x40B07800 ∷ 0 ∷ []) ∷ []) 60 2 0 not_sounding None
    ∷ example (on 0x40903C00 ∷ (0x40B07B00 ∷ 0 ∷ []) ∷ []) 60 2 0 not_sounding None
    ∷ example (on 0x40913C00 ∷ on 0x41903C00 ∷ on 0x4090BC00 ∷ []) 60 2 0 not_sounding None
    ∷ example [] 60 128 1 not_sounding None
    ∷ example [] 255 2 0 not_sounding None
    ∷ example (on 0x40903C00 ∷ []) 60 128 0 bad_range None
    ∷ example (on 0x40903C00 ∷ []) 60 2 1 bad_range None
    ∷ []

unfoldable pub Examples : Type 0
Examples = map (λ (e : Example). e.gives) examples ≡ map (λ (e : Example). e.should) examples
