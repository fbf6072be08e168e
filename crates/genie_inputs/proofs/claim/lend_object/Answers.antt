use Rattle.std.proofs.Common.{◌≡◌, refl, ap, arith, subst, length}
use Rattle.genie_object.specs.Objects.{object_at}
use Rattle.genie_plan.specs.Plans.{input_frames}
use Rattle.genie_inputs.proofs.Claimed.{ClaimedSoFar, all_are_empty, all_claimed, next_claimed, none_claimed, sound_so_far}
use Rattle.genie_inputs.proofs.claim.lend_object.Goals as goal

pub entries-init : goal.entries-init
entries-init c = none_claimed c.args.id.0 c.args.object.0 (input_frames c.new-loans.result.items) c.args.memory.now (ap input_frames c.new-loans.ensures) c.requires.sound c.requires.cached

pub lend_entry-requires-clause-sound : goal.lend_entry-requires-clause-sound
lend_entry-requires-clause-sound c = sound_so_far c.args.id.0 c.args.object.0 c.entries.index (input_frames c.entries.loans.items) c.args.memory.now c.entries.memory c.entries.invariant c.len.ensures.shaped c.len.ensures.lent

pub entries-preserved : goal.entries-preserved
entries-preserved c =
    let sound = sound_so_far c.args.id.0 c.args.object.0 c.entries.index (input_frames c.entries.loans.items) c.args.memory.now c.entries.memory c.entries.invariant c.len.ensures.shaped c.len.ensures.lent in
    next_claimed c.args.id.0 c.args.object.0 c.entries.index c.entries.loans.items c.push.new.self.items c.lend_entry.result c.args.memory.now c.entries.memory c.lend_entry.new.memory c.entries.invariant sound c.lend_entry.ensures c.push.ensures.items

pub remove-requires-clause-empty : goal.remove-requires-clause-empty
remove-requires-clause-empty c = all_are_empty c.args.id.0 c.args.object.0 c.entries.index (input_frames c.entries.loans.items) c.args.memory.now c.entries.memory c.entries.invariant (omega (arith, c.pages-pages.ensures.number))

pub returns : goal.returns
returns c =
    let now = c.entries.memory in
    let all_entries : c.entries.index ≡ length (object_at c.args.memory.now.objects c.args.object.0) = omega (arith, c.pages-pages.ensures.number) in
    let all = subst (λ k. ClaimedSoFar c.args.id.0 c.args.object.0 (input_frames c.entries.loans.items) k c.args.memory.now now) all_entries c.entries.invariant in
    all_claimed c.args.id.0 c.args.len c.args.object.0 (record { loans = c.entries.loans; first = 0; len = c.args.len }) c.args.memory.now now c.requires.sound all c.requires.pages refl refl c.len-2.ensures.shaped c.len-2.ensures.lent
    (record now { objects = c.remove.new.self }) (ap (λ es. record now { objects = es }) c.remove.ensures)
