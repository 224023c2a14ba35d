-- Each line has bytes. Assumes nothing.
use Rattle.std.proofs.Common.{◌<◌, length, Some, arith}
use Rattle.text.proofs.LineLaws.{number-length}
use Rattle.text.proofs.RescueLaws.{drop-length}
use Rattle.text.specs.Rescue.{bytes_line, ticks_line}
use Rattle.recording.specs.declared.Line.{Line}
use Rattle.recording.specs.declared.Line.TheVariants.{Drop, Ticks, Bytes, Answer}
use Rattle.recording.specs.Recording.{text_of}

pub said-some : (l : Line) → 0 < length (text_of (Some l))
unfolding text_of ticks_line bytes_line
said-some (Drop place answer count bad) = omega (arith, drop-length place answer count bad)
said-some (Ticks n) = omega arith
said-some (Bytes n) = omega arith
said-some (Answer n) = omega (arith, number-length 10 n)
