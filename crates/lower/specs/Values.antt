-- What `lowered` hands back.
use Rattle.std.specs.Prelude.{ℕ, List, map, get_or, length}
use Rattle.ump.specs.Word.{channel_of, group_of}
use Rattle.message.specs.Message.{Midi1, write1}
use Rattle.lower.specs.declared.UpToFourWords.{UpToFourWords}

-- up to four words, as values
abbrev pub packed : List ℕ → UpToFourWords
packed ws =
    record { count = length ws; first = get_or ws 0 0; second = get_or ws 1 0; third = get_or ws 2 0; fourth = get_or ws 3 0 }

-- the words of messages in the group and channel of the word w
abbrev pub words_in : ℕ → List Midi1 → UpToFourWords
words_in w ms = packed (map (write1 (group_of w) (channel_of w)) ms)
