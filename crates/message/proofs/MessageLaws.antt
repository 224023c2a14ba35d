-- What is written reads back as itself: the fields of a built word, and then each message by its status. Assumes nothing.
use mathlib.Core.Path.{◌≡◌, ap}
use Prim.Native.Nat.{ℕ, ◌+◌, ◌*◌, ◌/◌, ◌%◌, ◌^◌, ◌<◌, ◌≤◌}
use native.Mathlib.Omega.{arith}
use Rattle.ump.specs.declared.Group.{Group}
use Rattle.ump.specs.declared.Channel.{Channel}
use Rattle.ump.specs.Word.{bank_flag, bits, byte1, byte3, byte4, channel_of, data1, data2, group_of, message_type, status}
use Rattle.message.specs.Message.{Fits1, Fits2, Midi1, Midi2, ReadsBack, assignable2, assignable_per_note2, bank, bank_of, channel_pressure1, channel_pressure2, control_change1, control_change2, first2, no_bank, note_off1, note_off2, note_on1, note_on2, per_note_management2, per_note_pitch_bend2, pitch_bend1, pitch_bend2, poly_pressure1, poly_pressure2, program_change1, program_change2, read1, read2, registered2, registered_per_note2, relative_assignable2, relative_registered2, second2, voice_word, write1}

-- the fields of a built word
pub record Fields (w t g s c a b : ℕ) : Type 0 where
  pub is_type : message_type w ≡ t
  pub is_group : bits 24 4 w ≡ g
  pub is_status : status w ≡ s
  pub is_channel : bits 16 4 w ≡ c
  pub is_byte3 : byte3 w ≡ a
  pub is_byte4 : byte4 w ≡ b

pub built : (t : ℕ) (g : Group) (s : ℕ) (c : Channel) (a b : ℕ) → t < 16 → g.0 < 16 → s < 16 → c.0 < 16 → a < 256 → b < 256
    → Fields (voice_word t g s c a b) t g.0 s c.0 a b
built t g s c a b ht hg hs hc ha hb = omega arith

-- a built word of MT 2 and its two data bytes
pub word1 : (s a b : ℕ) (g : Group) (c : Channel) → g.0 < 16 → c.0 < 16 → s < 16 → a ≤ 127 → b ≤ 127
    → (status (voice_word 2 g s c a b) ≡ s) × (data1 (voice_word 2 g s c a b) ≡ a) × (data2 (voice_word 2 g s c a b) ≡ b)
word1 s a b g c hg hc hs ha hb = omega arith

group-of : (g h : Group) → g.0 ≡ h.0 → g ≡ h
group-of g h e = ap (λ (n : ℕ). record { 0 = n }) e

channel-of : (c d : Channel) → c.0 ≡ d.0 → c ≡ d
channel-of c d e = ap (λ (n : ℕ). record { 0 = n }) e

module _ (g : Group) (c : Channel) (hg : g.0 < 16) (hc : c.0 < 16) where
  placed : (t s a b : ℕ) → t < 16 → s < 16 → a < 256 → b < 256
      → (group_of (voice_word t g s c a b) ≡ g) × (channel_of (voice_word t g s c a b) ≡ c) × (message_type (voice_word t g s c a b) ≡ t)
  placed t s a b ht hs ha hb =
      let f = built t g s c a b ht hg hs hc ha hb in
      (group-of _ g f.is_group, channel-of _ c f.is_channel, f.is_type)

  pub read1-write1 : (m : Midi1) → Fits1 m → read1 (write1 g c m) ≡ m
  unfolding read1 write1
  read1-write1 (note_off1 n v) h =
      let f = word1 8 n v g c hg hc (omega arith) (omega arith) (omega arith) in
      rw (f.0, f.1, f.2)
  read1-write1 (note_on1 n v) h =
      let f = word1 9 n v g c hg hc (omega arith) (omega arith) (omega arith) in
      rw (f.0, f.1, f.2)
  read1-write1 (poly_pressure1 n v) h =
      let f = word1 10 n v g c hg hc (omega arith) (omega arith) (omega arith) in
      rw (f.0, f.1, f.2)
  read1-write1 (control_change1 i v) h =
      let f = word1 11 i v g c hg hc (omega arith) (omega arith) (omega arith) in
      rw (f.0, f.1, f.2)
  read1-write1 (program_change1 p) h =
      let f = word1 12 p 0 g c hg hc (omega arith) (omega arith) (omega arith) in
      rw (f.0, f.1)
  read1-write1 (channel_pressure1 v) h =
      let f = word1 13 v 0 g c hg hc (omega arith) (omega arith) (omega arith) in
      rw (f.0, f.1)
  read1-write1 (pitch_bend1 v) h =
      let f = word1 14 (v % 128) (v / 128) g c hg hc (omega arith) (omega arith) (omega arith) in
      rw (f.0, f.1, f.2) (ap pitch_bend1 (omega arith))

  pub place1 : (m : Midi1) → Fits1 m → (group_of (write1 g c m) ≡ g) × (channel_of (write1 g c m) ≡ c) × (message_type (write1 g c m) ≡ 2)
  unfolding write1
  place1 (note_off1 n v) h = placed 2 8 n v (omega arith) (omega arith) (omega arith) (omega arith)
  place1 (note_on1 n v) h = placed 2 9 n v (omega arith) (omega arith) (omega arith) (omega arith)
  place1 (poly_pressure1 n v) h = placed 2 10 n v (omega arith) (omega arith) (omega arith) (omega arith)
  place1 (control_change1 i v) h = placed 2 11 i v (omega arith) (omega arith) (omega arith) (omega arith)
  place1 (program_change1 p) h = placed 2 12 p 0 (omega arith) (omega arith) (omega arith) (omega arith)
  place1 (channel_pressure1 v) h = placed 2 13 v 0 (omega arith) (omega arith) (omega arith) (omega arith)
  place1 (pitch_bend1 v) h = placed 2 14 (v % 128) (v / 128) (omega arith) (omega arith) (omega arith) (omega arith)

  pub place2 : (m : Midi2) → Fits2 m → (group_of (first2 g c m) ≡ g) × (channel_of (first2 g c m) ≡ c) × (message_type (first2 g c m) ≡ 4)
  unfolding first2
  place2 (registered_per_note2 n i v) h = placed 4 0 n i (omega arith) (omega arith) (omega arith) (omega arith)
  place2 (assignable_per_note2 n i v) h = placed 4 1 n i (omega arith) (omega arith) (omega arith) (omega arith)
  place2 (registered2 b i v) h = placed 4 2 b i (omega arith) (omega arith) (omega arith) (omega arith)
  place2 (assignable2 b i v) h = placed 4 3 b i (omega arith) (omega arith) (omega arith) (omega arith)
  place2 (relative_registered2 b i v) h = placed 4 4 b i (omega arith) (omega arith) (omega arith) (omega arith)
  place2 (relative_assignable2 b i v) h = placed 4 5 b i (omega arith) (omega arith) (omega arith) (omega arith)
  place2 (per_note_pitch_bend2 n v) h = placed 4 6 n 0 (omega arith) (omega arith) (omega arith) (omega arith)
  place2 (note_off2 n v) h = placed 4 8 n 0 (omega arith) (omega arith) (omega arith) (omega arith)
  place2 (note_on2 n v) h = placed 4 9 n 0 (omega arith) (omega arith) (omega arith) (omega arith)
  place2 (poly_pressure2 n v) h = placed 4 10 n 0 (omega arith) (omega arith) (omega arith) (omega arith)
  place2 (control_change2 i v) h = placed 4 11 i 0 (omega arith) (omega arith) (omega arith) (omega arith)
  place2 (per_note_management2 n f) h = placed 4 15 n f (omega arith) (omega arith) (omega arith) (omega arith)
  place2 (program_change2 p no_bank) h = placed 4 12 0 0 (omega arith) (omega arith) (omega arith) (omega arith)
  place2 (program_change2 p (bank x y)) h = placed 4 12 0 1 (omega arith) (omega arith) (omega arith) (omega arith)
  place2 (channel_pressure2 v) h = placed 4 13 0 0 (omega arith) (omega arith) (omega arith) (omega arith)
  place2 (pitch_bend2 v) h = placed 4 14 0 0 (omega arith) (omega arith) (omega arith) (omega arith)

  pub read2-write2 : (m : Midi2) → Fits2 m → read2 (first2 g c m) (second2 m) ≡ m
  unfolding read2 first2 second2 bank_of
  read2-write2 (registered_per_note2 n i v) h =
      let f = built 4 g 0 c n i (omega arith) hg (omega arith) hc (omega arith) (omega arith) in
      rw (f.is_status, f.is_byte3, f.is_byte4)
  read2-write2 (assignable_per_note2 n i v) h =
      let f = built 4 g 1 c n i (omega arith) hg (omega arith) hc (omega arith) (omega arith) in
      rw (f.is_status, f.is_byte3, f.is_byte4)
  read2-write2 (registered2 b i v) h =
      let f = built 4 g 2 c b i (omega arith) hg (omega arith) hc (omega arith) (omega arith) in
      rw (f.is_status, f.is_byte3, f.is_byte4)
  read2-write2 (assignable2 b i v) h =
      let f = built 4 g 3 c b i (omega arith) hg (omega arith) hc (omega arith) (omega arith) in
      rw (f.is_status, f.is_byte3, f.is_byte4)
  read2-write2 (relative_registered2 b i v) h =
      let f = built 4 g 4 c b i (omega arith) hg (omega arith) hc (omega arith) (omega arith) in
      rw (f.is_status, f.is_byte3, f.is_byte4)
  read2-write2 (relative_assignable2 b i v) h =
      let f = built 4 g 5 c b i (omega arith) hg (omega arith) hc (omega arith) (omega arith) in
      rw (f.is_status, f.is_byte3, f.is_byte4)
  read2-write2 (per_note_pitch_bend2 n v) h =
      let f = built 4 g 6 c n 0 (omega arith) hg (omega arith) hc (omega arith) (omega arith) in
      rw (f.is_status, f.is_byte3)
  read2-write2 (note_off2 n v) h =
      let f = built 4 g 8 c n 0 (omega arith) hg (omega arith) hc (omega arith) (omega arith) in
      let q : bits 16 16 (v * 2 ^ 16) ≡ v = omega arith in
      rw (f.is_status, f.is_byte3, q)
  read2-write2 (note_on2 n v) h =
      let f = built 4 g 9 c n 0 (omega arith) hg (omega arith) hc (omega arith) (omega arith) in
      let q : bits 16 16 (v * 2 ^ 16) ≡ v = omega arith in
      rw (f.is_status, f.is_byte3, q)
  read2-write2 (poly_pressure2 n v) h =
      let f = built 4 g 10 c n 0 (omega arith) hg (omega arith) hc (omega arith) (omega arith) in
      rw (f.is_status, f.is_byte3)
  read2-write2 (control_change2 i v) h =
      let f = built 4 g 11 c i 0 (omega arith) hg (omega arith) hc (omega arith) (omega arith) in
      rw (f.is_status, f.is_byte3)
  read2-write2 (per_note_management2 n f) h =
      let f = built 4 g 15 c n f (omega arith) hg (omega arith) hc (omega arith) (omega arith) in
      rw (f.is_status, f.is_byte3, f.is_byte4)
  read2-write2 (program_change2 p no_bank) h =
      let f = built 4 g 12 c 0 0 (omega arith) hg (omega arith) hc (omega arith) (omega arith) in
      let k : bank_flag (voice_word 4 g 12 c 0 0) ≡ 0 = omega arith in
      let q : byte1 (p * 2 ^ 24) ≡ p = omega arith in
      rw (f.is_status, k, q)
  read2-write2 (program_change2 p (bank x y)) h =
      let f = built 4 g 12 c 0 1 (omega arith) hg (omega arith) hc (omega arith) (omega arith) in
      let k : bank_flag (voice_word 4 g 12 c 0 1) ≡ 1 = omega arith in
      let q : (byte1 (p * 2 ^ 24 + x * 2 ^ 8 + y) ≡ p) × (byte3 (p * 2 ^ 24 + x * 2 ^ 8 + y) ≡ x) × (byte4 (p * 2 ^ 24 + x * 2 ^ 8 + y) ≡ y) = omega arith in
      rw (f.is_status, k, q.0, q.1, q.2)
  read2-write2 (channel_pressure2 v) h =
      let f = built 4 g 13 c 0 0 (omega arith) hg (omega arith) hc (omega arith) (omega arith) in
      rw f.is_status
  read2-write2 (pitch_bend2 v) h =
      let f = built 4 g 14 c 0 0 (omega arith) hg (omega arith) hc (omega arith) (omega arith) in
      rw f.is_status

pub proved-reads-back : ReadsBack
proved-reads-back =
    record {
      midi1 = λ g c m hg hc h. (read1-write1 g c hg hc m h, place1 g c hg hc m h);
      midi2 = λ g c m hg hc h. (read2-write2 g c hg hc m h, place2 g c hg hc m h);
    }
