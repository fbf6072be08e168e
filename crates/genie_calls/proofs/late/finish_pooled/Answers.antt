use Rattle.std.proofs.Common.{◌≡◌, subst}
use Rattle.std.specs.Prelude.{IfSome, find}
use Rattle.genie_base.specs.Transfers.{class_of}
use Rattle.genie_base.specs.declared.semantics.Class.{Class}
use Rattle.genie_base.specs.declared.semantics.Class.TheVariants.{Copy, Share, Move, WeakMove}
use Rattle.genie_kernel.specs.declared.transfer.Transfer.{Transfer}
use Rattle.genie_kernel.specs.Calls.{has_number}
use Rattle.genie_calls.proofs.OfKinds.{copy_tabled, move_untabled, ends_pooled, finish_pending}
use Rattle.genie_calls.proofs.Serving.{ends_by_store, paged_by_store}
use Rattle.genie_calls.proofs.late.finish_pooled.Goals as goal

pub class_at-requires : goal.class_at-requires
class_at-requires g c = finish_pending c.args.kernel.now c.args.id c.requires.accepted

pub finish_copy_pooled-requires-clause-case : goal.finish_copy_pooled-requires-clause-case
finish_copy_pooled-requires-clause-case g c =
    let k = c.args.kernel.now in
    ends_pooled k c.args.id Copy c.requires.case (subst (λ (x : Class). IfSome (find (has_number c.args.id) k.transfers) (λ (t : Transfer). class_of t.sem ≡ x)) c.in-Copy.is c.class_at.ensures)

pub returns-in-Copy : goal.returns-in-Copy
returns-in-Copy g c = ends_by_store c.args.kernel.now c.finish_copy_pooled.new.kernel c.args.id c.finish_copy_pooled.result (g.S.Store.view c.args.store.now) (g.S.Store.view c.finish_copy_pooled.new.store) (copy_tabled c.args.kernel.now c.finish_copy_pooled.new.kernel c.args.id c.finish_copy_pooled.result c.requires.case (finish_pending c.args.kernel.now c.args.id c.requires.accepted) c.finish_copy_pooled.ensures.copying) c.finish_copy_pooled.ensures.serves

pub finish_share_pooled-requires-clause-case : goal.finish_share_pooled-requires-clause-case
finish_share_pooled-requires-clause-case g c =
    let k = c.args.kernel.now in
    ends_pooled k c.args.id Share c.requires.case (subst (λ (x : Class). IfSome (find (has_number c.args.id) k.transfers) (λ (t : Transfer). class_of t.sem ≡ x)) c.in-Share.is c.class_at.ensures)

pub returns-in-Share : goal.returns-in-Share
returns-in-Share g c = paged_by_store c.paged_events_are_told.ensures c.args.kernel.now c.finish_share_pooled.new.kernel c.args.id c.finish_share_pooled.result (g.S.Store.view c.args.store.now) c.requires.good c.requires.accepted c.requires.sized (g.met.S.Store.paged c.args.store.now) (λ tabled. c.finish_share_pooled.ensures.copying) c.finish_share_pooled.ensures.ends

pub finish_move_pooled-requires-clause-case : goal.finish_move_pooled-requires-clause-case
finish_move_pooled-requires-clause-case g c =
    let k = c.args.kernel.now in
    ends_pooled k c.args.id Move c.requires.case (subst (λ (x : Class). IfSome (find (has_number c.args.id) k.transfers) (λ (t : Transfer). class_of t.sem ≡ x)) c.in-Move.is c.class_at.ensures)

pub returns-in-Move : goal.returns-in-Move
returns-in-Move g c = ends_by_store c.args.kernel.now c.finish_move_pooled.new.kernel c.args.id c.finish_move_pooled.result (g.S.Store.view c.args.store.now) (g.S.Store.view c.finish_move_pooled.new.store) (λ tabled. absurd (move_untabled c.args.kernel.now c.args.id c.requires.good c.requires.case (subst (λ (x : Class). IfSome (find (has_number c.args.id) c.args.kernel.now.transfers) (λ (t : Transfer). class_of t.sem ≡ x)) c.in-Move.is c.class_at.ensures) tabled (finish_pending c.args.kernel.now c.args.id c.requires.accepted))) c.finish_move_pooled.ensures

pub finish_weak_move_pooled-requires-clause-case : goal.finish_weak_move_pooled-requires-clause-case
finish_weak_move_pooled-requires-clause-case g c =
    let k = c.args.kernel.now in
    ends_pooled k c.args.id WeakMove c.requires.case (subst (λ (x : Class). IfSome (find (has_number c.args.id) k.transfers) (λ (t : Transfer). class_of t.sem ≡ x)) c.in-WeakMove.is c.class_at.ensures)

pub returns-in-WeakMove : goal.returns-in-WeakMove
returns-in-WeakMove g c = paged_by_store c.paged_events_are_told.ensures c.args.kernel.now c.finish_weak_move_pooled.new.kernel c.args.id c.finish_weak_move_pooled.result (g.S.Store.view c.args.store.now) c.requires.good c.requires.accepted c.requires.sized (g.met.S.Store.paged c.args.store.now) (λ tabled. c.finish_weak_move_pooled.ensures.copying) c.finish_weak_move_pooled.ensures.ends
