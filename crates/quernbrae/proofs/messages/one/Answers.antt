-- `quernbrae::messages::one` meets its contract: the turn with the chain in the packet's slot is the turn over the list, and
-- a chain that was not asked stays. Assumes nothing.
use Rattle.std.proofs.Common.{arith}
use Rattle.quernbrae.proofs.ChainSlots.{left-buffer, read-inside, turn-chains, turn-progress, turn-stays}
use Rattle.quernbrae.proofs.messages.one.Goals as goal

pub offset_bounds-chains-i : goal.offset_bounds-chains-i
offset_bounds-chains-i c =
    let a = c.args in
    let i = c.slot_at-i in
    let h = read-inside a.chains.now a.buffer.now a.words.now a.at c.requires i.result i.ensures in
    omega (arith, h, c.requires)

pub slice_copy_out-turn : goal.slice_copy_out-turn
slice_copy_out-turn c =
    let a = c.args in
    read-inside a.chains.now a.buffer.now a.words.now a.at c.requires c.slot_at-i.result c.slot_at-i.ensures

pub offset_bounds-chains-i-in-Some : goal.offset_bounds-chains-i-in-Some
offset_bounds-chains-i-in-Some c =
    let a = c.args in
    let i = c.slot_at-i in
    let h = read-inside a.chains.now a.buffer.now a.words.now a.at c.requires i.result i.ensures in
    omega (arith, h, c.requires)

pub bounds-chains-i : goal.bounds-chains-i
bounds-chains-i c =
    let a = c.args in
    read-inside a.chains.now a.buffer.now a.words.now a.at c.requires c.slot_at-i.result c.slot_at-i.ensures

pub returns-in_default : goal.returns-in_default
returns-in_default c =
    let a = c.args in
    let i = c.slot_at-i in
    let s = c.turn-turned in
    let e = s.ensures.turned in
    record {
      progress = turn-progress a.chains.now a.buffer.now a.words.now a.at c.requires i.result i.ensures _ s.result e;
      chains =
          turn-stays a.chains.now a.buffer.now a.words.now a.at c.requires i.result i.ensures _ s.result e
          c.in_default.is;
      buffer =
          left-buffer a.chains.now a.buffer.now a.words.now a.at c.requires i.result i.ensures _ s.new.buffer
          s.ensures.buffer;
    }

pub returns-in-Some : goal.returns-in-Some
returns-in-Some c =
    let a = c.args in
    let i = c.slot_at-i in
    let s = c.turn-turned in
    let e = s.ensures.turned in
    record {
      progress = turn-progress a.chains.now a.buffer.now a.words.now a.at c.requires i.result i.ensures _ s.result e;
      chains =
          turn-chains a.chains.now a.buffer.now a.words.now a.at c.requires i.result i.ensures _ s.result e _
          c.in-Some.is;
      buffer =
          left-buffer a.chains.now a.buffer.now a.words.now a.at c.requires i.result i.ensures _ s.new.buffer
          s.ensures.buffer;
    }
