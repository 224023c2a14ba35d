-- `quernbrae::quernbrae_collect` meets its contract: the call with the chain in the packet's slot is the call over the list,
-- where the list has 32 chains. Assumes nothing.
use Rattle.std.proofs.Common.{◌∙◌, arith, ne_eqb, refl}
use Rattle.chains.specs.Collect.{buffer_after, chains_after, collected_of}
use Rattle.quernbrae.proofs.ChainSlots.{call-chains, call-report, left-buffer, read-inside}
use Rattle.quernbrae.proofs.messages.quernbrae_collect.Goals as goal

pub offset_bounds-chains-i : goal.offset_bounds-chains-i
offset_bounds-chains-i c =
    let a = c.args in
    let i = c.slot_at-i in
    let h = read-inside a.chains.now a.buffer.now a.words.now 0 c.if-chains-ne-CHAINS.false i.result i.ensures in
    omega (arith, h, c.if-chains-ne-CHAINS.false)

pub slice_copy_out-call : goal.slice_copy_out-call
slice_copy_out-call c =
    let a = c.args in
    let i = c.slot_at-i in
    read-inside a.chains.now a.buffer.now a.words.now 0 c.if-chains-ne-CHAINS.false i.result i.ensures

pub offset_bounds-chains-i-2 : goal.offset_bounds-chains-i-2
offset_bounds-chains-i-2 c =
    let a = c.args in
    let i = c.slot_at-i in
    let h = read-inside a.chains.now a.buffer.now a.words.now 0 c.if-chains-ne-CHAINS.false i.result i.ensures in
    omega (arith, h, c.if-chains-ne-CHAINS.false)

pub bounds-chains-i : goal.bounds-chains-i
bounds-chains-i c =
    let a = c.args in
    let i = c.slot_at-i in
    read-inside a.chains.now a.buffer.now a.words.now 0 c.if-chains-ne-CHAINS.false i.result i.ensures

pub returns : goal.returns
returns c =
    let a = c.args in
    let f = c.if-chains-ne-CHAINS.false in
    let i = c.slot_at-i in
    let s = c.call-called in
    let e = s.ensures.called in
    record {
      report = call-report a.chains.now a.buffer.now a.words.now f i.result i.ensures _ s.result e;
      chains = call-chains a.chains.now a.buffer.now a.words.now f i.result i.ensures _ s.result e;
      buffer =
          left-buffer a.chains.now a.buffer.now a.words.now 0 f i.result i.ensures _ s.new.buffer s.ensures.buffer;
    }

pub returns-then-chains-ne-CHAINS : goal.returns-then-chains-ne-CHAINS
unfolding collected_of chains_after buffer_after
returns-then-chains-ne-CHAINS c =
    let h = ne_eqb _ _ c.if-chains-ne-CHAINS.true in
    record { report = c.unlisted.ensures ∙ rw h refl; chains = rw h refl; buffer = rw h refl }
