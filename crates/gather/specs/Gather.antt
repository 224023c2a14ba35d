-- Whole messages as lines (RULES 14.5; 02 M-106): a call of the collector for each packet, and the line of the message
-- that it finishes or of the open chain that it drops.
use Rattle.std.specs.Prelude.{ℕ, ◌+◌, ◌*◌, ◌-◌, ◌/◌, Bool, cond, ◌&&◌, List, [], eqb, ltb, drop, length, take}
use Rattle.ump.specs.Packet.{cut, packet}
use Rattle.stream.specs.declared.Done.{Done}
use Rattle.stream.specs.Answers.{cut_packet, no_room, sent}
use Rattle.stream.specs.Call.{Call, answer_of, read_of, sent_of, stopped, went}
use Rattle.stream.specs.Report.{counting}
use Rattle.stream.specs.Run.{Ran, run}
use Rattle.chains.specs.declared.Chain.{Chain}
use Rattle.chains.specs.declared.Collected.{Collected}
use Rattle.chains.specs.Collect.{buffer_of, chains_of, report_of}
use Rattle.chains.specs.Run.{drops, open_at}
use Rattle.tally.specs.Tally.{counted, sort_of}
use Rattle.text.specs.Messages.{dropped_line, message_line}
use Rattle.gather.specs.declared.Collector.{Collector}

-- What goes on from one packet to the next: the chains, how often each sort of call came, and the buffer.
pub record Held : Type 0 where
  pub chains : List Chain
  pub counts : List ℕ
  pub buffer : List ℕ

abbrev pub held : List Chain → List ℕ → List ℕ → Held
held cs counts b = record { chains = cs; counts = counts; buffer = b }

-- the bytes of a finished chain
abbrev pub bytes_of : Collected → List ℕ → List ℕ
bytes_of r b = take r.length (drop r.start b)

-- The line of a call that reports r and leaves the buffer b, by whether it dropped an open chain; most calls have none.
unfoldable pub line_by : Bool → Collected → List ℕ → List ℕ
line_by dropped r b =
    cond (eqb r.answer sent) (message_line r.chain (bytes_of r b)) (cond dropped (dropped_line r.answer r.chain) [])

-- the same from the chains before it
abbrev pub line_after : List Chain → Collected → List ℕ → List ℕ
line_after before r b = line_by (open_at before r.chain && drops r.answer) r b

-- a call at the packet that stands first in some words, and its line
abbrev pub collected_at : Held → List ℕ → Collected
collected_at h s = report_of h.chains h.buffer s

abbrev pub line_at : Held → List ℕ → List ℕ
line_at h s = line_after h.chains (collected_at h s) (buffer_of h.chains h.buffer s)

abbrev pub held_after : Held → List ℕ → Held
held_after h s =
    let r = collected_at h s in
    held (chains_of h.chains h.buffer s) (counted h.counts (sort_of r.answer r.place)) (buffer_of h.chains h.buffer s)

-- the bytes that no line is longer than: three for each byte of a part, and those of a head, an answer and the end
abbrev pub longest : ℕ → ℕ
longest n = 3 * (n / 32) + 16

-- What becomes of the packet where the text still has so much room. It is looked at only where any line would fit, so
-- that no line is lost.
unfoldable pub gather : ℕ × Held → List ℕ → Call (ℕ × Held)
gather t s =
    cond (ltb t.0 (longest (length t.1.buffer))) (stopped no_room)
    (cond (eqb (length (packet s)) 0) (stopped cut_packet)
    (went (collected_at t.1 s).answer (line_at t.1 s) (t.0 - length (line_at t.1 s), held_after t.1 s)))

-- every packet of the words, in a text of so many bytes
unfoldable pub gathering : ℕ → Held → List ℕ → Ran (ℕ × Held)
gathering room h s = run gather (room, h) (cut s)

-- one packet, after what was read and written so far, into the text
abbrev pub gather_at : Held → List ℕ → Done → List ℕ → Call (ℕ × Held)
gather_at h ws d text = gather (length text - d.written, h) (drop d.read ws)

-- what is then reported
abbrev pub gathered_after : {T : Type 0} → Done → List ℕ → Call T → Done
gathered_after d p c = counting (answer_of c) (d.read + read_of p c) (d.written + length (sent_of c))

-- what is held of a collector and a buffer
abbrev pub held_in : Collector → List ℕ → Held
held_in c b = held c.chains c.counts.times b
