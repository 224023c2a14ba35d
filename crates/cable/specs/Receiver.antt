-- What a receiver remembers, and what a byte comes to in it, read as a cable. The held bytes stand as in the packet:
-- the first two in `high`, the low half of its first word, and the others in `low`, its second word.
use Rattle.std.specs.Prelude.{ℕ, ◌/◌, ◌%◌, ◌^◌, List, [], ◌∷◌}
use Rattle.cable.specs.declared.Cable.{Cable}
use Rattle.cable.specs.declared.Heard.{Heard}
use Rattle.cable.specs.declared.Receiver.{Receiver}

-- the six bytes of two numbers
abbrev pub bytes_of : ℕ → ℕ → List ℕ
bytes_of high low =
    high / 2 ^ 8 % 256
    ∷ high % 256
    ∷ low / 2 ^ 24 % 256
    ∷ low / 2 ^ 16 % 256
    ∷ low / 2 ^ 8 % 256
    ∷ low % 256
    ∷ []

abbrev pub cable_of : Receiver → Cable
cable_of r =
    record {
      running = r.running;
      status = r.status;
      begun = r.begun;
      count = r.count;
      held = bytes_of r.high r.low;
    }

abbrev pub heard_of : Heard Receiver → Heard Cable
heard_of r = record { answer = r.answer; read = r.read; sends = r.sends; after = cable_of r.after }
