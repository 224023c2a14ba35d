-- The worked examples of the request, and one of a marked channel, as one statement over one list (RULES 5.9, 6, 7, 8).
use Rattle.std.specs.Prelude.{ℕ, ◌≡◌, List, [], ◌∷◌, ◌++◌, map}
use Rattle.scale.specs.Scale.{up}
use Rattle.stream.specs.Call.{answer_of, left_of, sent_of}
use Rattle.channel.specs.declared.Record.{Record}
use Rattle.channel.specs.Record.{empty, with_mark}
use Rattle.voice.specs.Packet.{call_down, call_up}

-- What an example gives, and what it has to give.
pub record Example : Type 0 where
  pub gives : List ℕ
  pub should : List ℕ

abbrev pub example : List ℕ → List ℕ → Example
example gives should = record { gives = gives; should = should }

-- packets going up into one record, one after the other: of each call the answer, and then the words sent
unfoldable pub going_up : Record → List (List ℕ) → List ℕ
going_up r [] = []
going_up r (p ∷ ps) = (answer_of (call_up r p) ∷ sent_of (call_up r p)) ++ going_up (left_of r (call_up r p)) ps

unfoldable pub going_down : List ℕ → List ℕ
going_down p = answer_of (call_down tt p) ∷ sent_of (call_down tt p)

-- packets of one word
abbrev pub singly : List ℕ → List (List ℕ)
singly ws = map (λ (w : ℕ). w ∷ []) ws

unfoldable pub examples : List Example
examples =
    example (map (up 7 16) (63 ∷ 64 ∷ 65 ∷ 100 ∷ 127 ∷ [])) (0x7E00 ∷ 0x8000 ∷ 0x8208 ∷ 0xC924 ∷ 0xFFFF ∷ [])
    ∷ example (map (up 7 32) (65 ∷ 127 ∷ [])) (0x82082082 ∷ 0xFFFFFFFF ∷ [])
    ∷ example (map (up 14 32) (1 ∷ 8192 ∷ 8193 ∷ [])) (0x00040000 ∷ 0x80000000 ∷ 0x80040020 ∷ [])
    ∷ example (going_up empty (singly (0x20903C41 ∷ []))) (0 ∷ 0x40903C00 ∷ 0x82080000 ∷ [])
    ∷ example (going_up empty (singly (0x20903C00 ∷ []))) (0 ∷ 0x40803C00 ∷ 0x00000000 ∷ [])
    ∷ example (going_up empty (singly (0x20B00001 ∷ 0x20B02002 ∷ 0x20C00500 ∷ 0x20C00500 ∷ [])))
    (1 ∷ 1 ∷ 0 ∷ 0x40C00001 ∷ 0x05000102 ∷ 0 ∷ 0x40C00000 ∷ 0x05000000 ∷ [])
    ∷ example (going_up empty (singly (0x20B06500 ∷ 0x20B06400 ∷ 0x20B00602 ∷ 0x20B02600 ∷ 0x20B02601 ∷ [])))
    (1 ∷ 1 ∷ 1 ∷ 0 ∷ 0x40200000 ∷ 0x04000000 ∷ 0 ∷ 0x40200000 ∷ 0x04040000 ∷ [])
    ∷ example (going_up (with_mark empty 1) (singly (0x20B06500 ∷ 0x20B06400 ∷ 0x20B00602 ∷ 0x20B02601 ∷ [])))
    (1 ∷ 1 ∷ 0 ∷ 0x40200000 ∷ 0x04000000 ∷ 1 ∷ [])
    ∷ example (going_down (0x40903C00 ∷ 0x01FF0000 ∷ [])) (0 ∷ 0x20903C01 ∷ [])
    ∷ []

unfoldable pub Examples : Type 0
Examples = map (λ (e : Example). e.gives) examples ≡ map (λ (e : Example). e.should) examples
