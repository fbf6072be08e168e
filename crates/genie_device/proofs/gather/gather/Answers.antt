use Rattle.std.proofs.Common.{◌≡◌, ℕ, List, length, arith, ◌∙◌, sym}
use Rattle.std.proofs.lemmas.Grind.{common_steps}
use Rattle.genie_base.specs.Headers.{size_of_header}
use Rattle.genie_wire.specs.Headers.{IsWhole}
use Rattle.genie_device.proofs.Gathering.{gathered_none, gathered_more, gathered_failed, gathered_stopped, gathered_spent, gathered_whole, some_wanted, within_budget, within_header, still_short}
use Rattle.genie_device.proofs.gather.gather.Goals as goal

sizes : (content bytes : List ℕ) (have size : ℕ) → have ≡ length content → bytes ≡ content → size ≡ size_of_header bytes → (have ≡ length content) × (size ≡ size_of_header content)
sizes content bytes have size h b s = (h, rw b at s)

pub runs-init : goal.runs-init
runs-init g c = record { so = gathered_none _ _ _ _; short = c.requires.short }

pub read-requires : goal.read-requires
read-requires g c = c.runs.invariant.so.only.mode ∙ c.requires.reading

pub returns-in-Err : goal.returns-in-Err
returns-in-Err g c = gathered_failed _ _ _ _ _ _ _ _ _ _ _ c.runs.invariant.so c.runs.invariant.short c.in-Err.ensures.step c.runs-test.true

pub returns-in-Ok-eq0 : goal.returns-in-Ok-eq0
returns-in-Ok-eq0 g c =
    let step = rw c.in-Ok-eq0.field-0-test at c.in-Ok-eq0.ensures.step in
    let long : length c.read.new.into ≡ c.min-want.result = (let h = c.min-want.array_long in let k = c.read.auto.into in grind (arith, common_steps)) in
    gathered_stopped _ _ _ _ _ _ _ _ _ _ c.runs.invariant.so c.runs.invariant.short step
    (some_wanted _ _ _ _ _ _ _ _ c.runs.invariant.short c.as_slice.ensures.value c.size_of.ensures.size c.len.ensures.value c.min-want.ensures long c.runs-test.true)

pub returns-then-len-size_of : goal.returns-then-len-size_of
returns-then-len-size_of g c =
    let bound = c.in-Ok.ensures.bound in
    let long : length c.read.new.into ≡ c.min-want.result = (let h = c.min-want.array_long in let k = c.read.auto.into in grind (arith, common_steps)) in
    let so = gathered_more _ _ _ _ _ _ _ _ _ _ _ c.runs.invariant.so c.in-Ok.ensures.step bound.0 (within_budget _ _ _ _ _ _ c.min-want.ensures long bound.0 c.runs-test.true) c.keep.ensures in
    let whole : IsWhole c.keep.new.gathered.items = (let e = sizes c.keep.new.gathered.items _ _ _ c.len-in-Ok.ensures.value c.as_slice-in-Ok.ensures.value c.size_of-in-Ok.ensures.size in sym e.0 ∙ c.if-len-size_of.true ∙ e.1) in
    gathered_whole _ _ _ _ _ _ _ _ _ so whole (rw c.as_slice-then-len-size_of.ensures.value at c.judge.ensures)

pub runs-preserved : goal.runs-preserved
runs-preserved g c =
    let bound = c.in-Ok.ensures.bound in
    let long : length c.read.new.into ≡ c.min-want.result = (let h = c.min-want.array_long in let k = c.read.auto.into in grind (arith, common_steps)) in
    let e = sizes c.keep.new.gathered.items _ _ _ c.len-in-Ok.ensures.value c.as_slice-in-Ok.ensures.value c.size_of-in-Ok.ensures.size in
    let fits = within_header _ _ _ _ _ _ _ _ _ _ _ c.runs.invariant.short c.as_slice.ensures.value c.size_of.ensures.size c.len.ensures.value c.min-want.ensures long (sym bound.1) bound.0 c.keep.ensures in
    record {
      so = gathered_more _ _ _ _ _ _ _ _ _ _ _ c.runs.invariant.so c.in-Ok.ensures.step bound.0 (within_budget _ _ _ _ _ _ c.min-want.ensures long bound.0 c.runs-test.true) c.keep.ensures;
      short = still_short c.keep.new.gathered.items fits (λ same. c.if-len-size_of.false (e.0 ∙ same ∙ sym e.1));
    }

pub returns : goal.returns
returns g c = gathered_spent _ _ _ _ _ _ _ _ c.runs.invariant.so c.runs.invariant.short c.runs-test.false
