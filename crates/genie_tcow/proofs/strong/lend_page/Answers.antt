use Rattle.std.proofs.Common.{[], ◌∷◌, Bool, sym, subst, arith}
use Rattle.genie_object.specs.Touching.{is_in_range}
use Rattle.genie_plan.specs.Loans.{Strong, output_kind}
use Rattle.genie_tcow.specs.Lending.{HasLent}
use Rattle.genie_tcow.specs.Owning.{AreOwnFrames}
use Rattle.genie_tcow.specs.Ranges.{HoldsEntries}
use Rattle.genie_tcow.proofs.Within.{within_spoken, touches_in}
use Rattle.genie_tcow.proofs.LentStrongly.{held_free, page_lent, page_bytes, page_owners, page_own, page_others, page_costs, page_spends}
use Rattle.genie_tcow.proofs.strong.lend_page.Goals as goal

pub lend_frame-requires-clause-free : goal.lend_frame-requires-clause-free
lend_frame-requires-clause-free g c = λ h. let f = held_free c.args.memory.now c.bring.new.memory (g.S.Store.view c.args.store.now) (g.S.Store.view c.bring.new.store) c.args.at.object.0 c.args.at.index c.in-Ok.frame.0 c.in-Ok.ensures.brought h in omega (arith, f, c.requires.free)

pub returns-in-Ok-clause-lent : goal.returns-in-Ok-clause-lent
returns-in-Ok-clause-lent g c =
    let x = c.in-Ok.ensures.brought in
    let is = page_lent c.args.memory.now c.bring.new.memory (g.S.Store.view c.args.store.now) (g.S.Store.view c.bring.new.store) c.args.at.object.0 c.args.at.index c.in-Ok.frame.0 x c.lend_frame.new.memory c.args.id.0 c.lend_frame.result.frame.0 c.lend_frame.ensures.own c.lend_frame.ensures.claimed (is_in_range c.args.at.object.0 c.args.from c.args.n) (within_spoken _ _ _ _ c.requires.within) (touches_in _ _ _ _ _ _ c.requires.within x.moves.touches) in
    subst (λ (k : Bool). HasLent Strong c.args.id.0 (is_in_range c.args.at.object.0 c.args.from c.args.n) (record { kind = output_kind k; frame = c.lend_frame.result.frame.0 } ∷ []) c.args.memory.now c.lend_frame.new.memory (g.S.Store.view c.args.store.now) (g.S.Store.view c.bring.new.store)) (sym c.lend_frame.ensures.strong) is

pub returns-in-Ok-clause-bytes : goal.returns-in-Ok-clause-bytes
returns-in-Ok-clause-bytes g c =
    let is = page_bytes c.args.memory.now c.bring.new.memory (g.S.Store.view c.args.store.now) (g.S.Store.view c.bring.new.store) c.args.at.object.0 c.args.at.index c.in-Ok.frame.0 c.in-Ok.ensures.brought c.lend_frame.new.memory c.args.id.0 c.lend_frame.result.frame.0 c.lend_frame.ensures.own c.lend_frame.ensures.claimed in
    subst (λ (k : Bool). HoldsEntries c.args.memory.now (g.S.Store.view c.args.store.now) c.args.at.object.0 c.args.at.index (record { kind = output_kind k; frame = c.lend_frame.result.frame.0 } ∷ []) c.lend_frame.new.memory.frames) (sym c.lend_frame.ensures.strong) is

pub returns-in-Ok-clause-own : goal.returns-in-Ok-clause-own
returns-in-Ok-clause-own g c =
    let is = page_own c.args.memory.now c.bring.new.memory (g.S.Store.view c.args.store.now) (g.S.Store.view c.bring.new.store) c.args.at.object.0 c.args.at.index c.in-Ok.frame.0 c.in-Ok.ensures.brought c.lend_frame.new.memory c.args.id.0 c.lend_frame.result.frame.0 c.lend_frame.ensures.own c.lend_frame.ensures.claimed in
    subst (λ (k : Bool). AreOwnFrames c.args.memory.now c.lend_frame.new.memory c.args.at.object.0 c.args.at.index (record { kind = output_kind k; frame = c.lend_frame.result.frame.0 } ∷ [])) (sym c.lend_frame.ensures.strong) is

pub returns-in-Ok-clause-others : goal.returns-in-Ok-clause-others
returns-in-Ok-clause-others g c = page_others c.args.memory.now c.bring.new.memory (g.S.Store.view c.args.store.now) (g.S.Store.view c.bring.new.store) c.args.at.object.0 c.args.at.index c.in-Ok.frame.0 c.in-Ok.ensures.brought c.lend_frame.new.memory c.args.id.0 c.lend_frame.result.frame.0 c.lend_frame.ensures.own c.lend_frame.ensures.claimed

pub returns-in-Ok-clause-owners : goal.returns-in-Ok-clause-owners
returns-in-Ok-clause-owners g c = page_owners c.args.memory.now c.bring.new.memory (g.S.Store.view c.args.store.now) (g.S.Store.view c.bring.new.store) c.args.at.object.0 c.args.at.index c.in-Ok.frame.0 c.in-Ok.ensures.brought c.lend_frame.new.memory c.args.id.0 c.lend_frame.result.frame.0 c.lend_frame.ensures.own c.lend_frame.ensures.claimed

pub returns-in-Ok-clause-costs : goal.returns-in-Ok-clause-costs
returns-in-Ok-clause-costs g c = page_costs c.args.memory.now c.bring.new.memory (g.S.Store.view c.args.store.now) (g.S.Store.view c.bring.new.store) c.args.at.object.0 c.args.at.index c.in-Ok.frame.0 c.in-Ok.ensures.brought c.lend_frame.new.memory c.args.id.0 c.lend_frame.result.frame.0 c.lend_frame.ensures.own c.lend_frame.ensures.claimed

pub returns-in-Ok-clause-spends : goal.returns-in-Ok-clause-spends
returns-in-Ok-clause-spends g c = page_spends c.args.memory.now c.bring.new.memory (g.S.Store.view c.args.store.now) (g.S.Store.view c.bring.new.store) c.args.at.object.0 c.args.at.index c.in-Ok.frame.0 c.in-Ok.ensures.brought c.lend_frame.new.memory c.args.id.0 c.lend_frame.result.frame.0 c.lend_frame.ensures.own c.lend_frame.ensures.claimed c.lend_frame.ensures.spends
