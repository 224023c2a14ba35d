-- What becomes of a packet that goes down, as the one number that the functions of downward.rt hand to each other: how
-- many words it sends, none where it has no form; that the output has no room for them; or that it is refused.
use Rattle.std.specs.Prelude.{ℕ, Bool, cond, List, eqb, leb, length}
use Rattle.ump.specs.Word.{voice1}
use Rattle.stream.specs.Call.{sent_of}
use Rattle.screen.specs.declared.Rule.{Rule}
use Rattle.screen.specs.Screen.{goes_on, screen_by}
use Rattle.voice.specs.Packet.{act_down}
use Rattle.voice.specs.Turn.{stored_in}

abbrev pub none_fit : ℕ
none_fit = 5

abbrev pub refused_down : ℕ
refused_down = 6

-- whether the screening lets a packet go on, and the words that it then sends
abbrev pub goes_down : Rule → List ℕ → Bool
goes_down rule p = eqb (screen_by rule voice1 p).answer goes_on

unfoldable pub words_down : List ℕ → List ℕ
words_down p = sent_of (act_down p)

-- a row of words in an output of so much room
abbrev pub sent_in : ℕ → List ℕ → ℕ
sent_in room ws = cond (leb (length ws) room) (length ws) none_fit

-- the number of a packet, and what the output then holds
abbrev pub sent_down : Rule → ℕ → List ℕ → ℕ
sent_down rule room p = cond (goes_down rule p) (sent_in room (words_down p)) refused_down

abbrev pub output_down : Rule → ℕ → List ℕ → List ℕ → List ℕ
output_down rule to out p = cond (goes_down rule p) (stored_in to out (words_down p)) out
