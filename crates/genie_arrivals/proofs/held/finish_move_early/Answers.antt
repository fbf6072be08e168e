use Rattle.std.proofs.Common.{arith, ◌≡◌, ◌*◌, ℕ, List, refl, sym, subst, ap, ◌∙◌}
use Rattle.std.specs.Prelude.{Some, find, is_some}
use Rattle.genie_base.specs.Transfers.{is_strong}
use Rattle.genie_base.specs.declared.reply.Reply.TheVariants as reply
use Rattle.genie_base.specs.declared.semantics.Class.TheVariants.{Move}
use Rattle.genie_frame.specs.declared.frame.InLoan.{InLoan}
use Rattle.genie_plan.specs.Plans.{input_frames}
use Rattle.genie_model.specs.Lemmas.Lists.{find_has}
use Rattle.genie_model.specs.Tables.{entry, without}
use Rattle.genie_kernel.specs.declared.kernel.Kernel.{Kernel}
use Rattle.genie_kernel.specs.declared.transfer.Transfer.{Transfer}
use Rattle.genie_kernel.specs.Calls.{has_number}
use Rattle.genie_kernel.specs.Planned.{LendsIn}
use Rattle.genie_kernel.specs.Regions.{has_id, regions_of}
use Rattle.genie_arrivals.specs.Cases.{IsInputOf}
use Rattle.genie_arrivals.specs.Clearing.{FillsObject}
use Rattle.genie_arrivals.specs.Live.{lively}
use Rattle.genie_arrivals.specs.Paging.{EndsPaged}
use Rattle.genie_arrivals.specs.Stored.{CanStoreBuffer}
use Rattle.genie_arrivals.proofs.Filled.{alone_ends, can_fill, move_ends, object_there, region_backed, region_owned, region_some}
use Rattle.genie_arrivals.proofs.Finishing.{has_buffer, lends_inward}
use Rattle.genie_arrivals.proofs.Found.{found_case, found_over, found_some}
use Rattle.genie_arrivals.proofs.Lent.{can_give_back}
use Rattle.genie_arrivals.proofs.Moving.{is_had, low_address}
use Rattle.genie_arrivals.proofs.Quiet.{ends_quietly}
use Rattle.genie_arrivals.proofs.Replying.{gone_finish, move_lost}
use Rattle.genie_arrivals.proofs.Unheld.{region_unheld}
use Rattle.genie_arrivals.proofs.EarlyCosts.{back_keeps, copies_same, move_keeps}
use Rattle.genie_arrivals.proofs.held.finish_move_early.Goals as goal

pub remove-transfer-requires : goal.remove-transfer-requires
remove-transfer-requires c = found_some c.args.kernel.now c.args.id.0 c.requires.accepted

pub give_back-requires : goal.give_back-requires
give_back-requires c = can_give_back c.args.kernel.now c.args.id.0 c.remove-transfer.result c.requires.good c.remove-transfer.ensures.removed (found_case (IsInputOf Move c.args.kernel.now.devices) c.args.kernel.now c.args.id.0 c.remove-transfer.result c.requires.case c.remove-transfer.ensures.removed).inward

pub give_back-requires-in_default : goal.give_back-requires-in_default
give_back-requires-in_default c = can_give_back c.args.kernel.now c.args.id.0 c.remove-transfer.result c.requires.good c.remove-transfer.ensures.removed (found_case (IsInputOf Move c.args.kernel.now.devices) c.args.kernel.now c.args.id.0 c.remove-transfer.result c.requires.case c.remove-transfer.ensures.removed).inward

pub returns-in-None-clause-ends : goal.returns-in-None-clause-ends
returns-in-None-clause-ends c =
    let k : Kernel = c.args.kernel.now in
    let t : Transfer = c.remove-transfer.result in
    let found = c.remove-transfer.ensures.removed in
    let is : IsInputOf Move k.devices t = found_case (IsInputOf Move k.devices) k c.args.id.0 t c.requires.case found in
    let after : List Transfer → Kernel = λ ts. record k { memory = record (k.memory) { frames = c.give_back.new.frames }; transfers = ts } in
    subst (λ (ts : List Transfer). EndsPaged k c.args.id.0 (after ts) reply.Gone) (sym c.remove-transfer.ensures.others) (alone_ends k (after (without (has_number c.args.id.0) k.transfers)) c.args.id.0 reply.Gone (ends_quietly c.end_laws.ensures k c.args.id.0 t c.requires.good found (found_over k c.args.id.0 t c.requires.accepted found) c.give_back.new.frames c.len.ensures.shaped c.len.ensures.lent c.give_back.ensures is.early reply.Gone refl (λ b. gone_finish k b c.args.id.0 t found c.in-None.is) c.requires.accepted))

pub returns-in_default-clause-ends : goal.returns-in_default-clause-ends
returns-in_default-clause-ends c =
    let k : Kernel = c.args.kernel.now in
    let t : Transfer = c.remove-transfer.result in
    let found = c.remove-transfer.ensures.removed in
    let is : IsInputOf Move k.devices t = found_case (IsInputOf Move k.devices) k c.args.id.0 t c.requires.case found in
    let after : List Transfer → Kernel = λ ts. record k { memory = record (k.memory) { frames = c.give_back-in_default.new.frames }; transfers = ts } in
    subst (λ (ts : List Transfer). EndsPaged k c.args.id.0 (after ts) reply.Lost) (sym c.remove-transfer.ensures.others) (alone_ends k (after (without (has_number c.args.id.0) k.transfers)) c.args.id.0 reply.Lost (ends_quietly c.end_laws.ensures k c.args.id.0 t c.requires.good found (found_over k c.args.id.0 t c.requires.accepted found) c.give_back-in_default.new.frames c.len-in_default.ensures.shaped c.len-in_default.ensures.lent c.give_back-in_default.ensures is.early reply.Lost refl (λ b. move_lost k b c.args.id.0 c.in-Some.field-0 t found c.in-Some.is is.inward is.class_is (c.named_region.ensures.none c.in_default.is)) c.requires.accepted))

pub unreachable-requires : goal.unreachable-requires
unreachable-requires c =
    let k : Kernel = c.args.kernel.now in
    let t : Transfer = c.remove-transfer.result in
    let found = c.remove-transfer.ensures.removed in
    let is : IsInputOf Move k.devices t = found_case (IsInputOf Move k.devices) k c.args.id.0 t c.requires.case found in
    subst (LendsIn k.config.page t) c.in-Outward.is (lends_inward k c.args.id.0 t c.requires.good found is.early (ap is_strong is.class_is) is.inward)

pub unreachable-requires-in-Nothing : goal.unreachable-requires-in-Nothing
unreachable-requires-in-Nothing c =
    let k : Kernel = c.args.kernel.now in
    let t : Transfer = c.remove-transfer.result in
    let found = c.remove-transfer.ensures.removed in
    let is : IsInputOf Move k.devices t = found_case (IsInputOf Move k.devices) k c.args.id.0 t c.requires.case found in
    subst (LendsIn k.config.page t) c.in-Nothing.is (lends_inward k c.args.id.0 t c.requires.good found is.early (ap is_strong is.class_is) is.inward)

pub fill_object-requires-clause-there : goal.fill_object-requires-clause-there
fill_object-requires-clause-there c =
    let k : Kernel = c.args.kernel.now in
    let t : Transfer = c.remove-transfer.result in
    let o = c.in-Some-named_region.owned in
    let found = c.remove-transfer.ensures.removed in
    let is : IsInputOf Move k.devices t = found_case (IsInputOf Move k.devices) k c.args.id.0 t c.requires.case found in
    let ready = found_over k c.args.id.0 t c.requires.accepted found in
    let had = is_had k t o c.in-Some-named_region.ensures.found in
    let h = has_buffer k c.args.id.0 t c.in-Inward.plan c.requires.good found is.early (ap is_strong is.class_is) is.inward c.in-Inward.is in
    object_there k.memory.objects o.region.object.0 o.region.pages (region_backed c.end_laws.ensures c.change_laws.ensures c.copy_laws.ensures c.swap_laws.ensures c.moves_end_in_zeros.ensures.can k c.args.id.0 c.in-Some.field-0 t o c.in-Inward.plan.loans.items c.requires.good found ready is c.in-Some.is had h) (region_some c.end_laws.ensures c.change_laws.ensures c.copy_laws.ensures c.swap_laws.ensures c.moves_end_in_zeros.ensures.can k c.args.id.0 c.in-Some.field-0 t o c.in-Inward.plan.loans.items c.requires.good found ready is c.in-Some.is had h)

pub fill_object-requires-clause-unheld : goal.fill_object-requires-clause-unheld
fill_object-requires-clause-unheld c =
    let k : Kernel = c.args.kernel.now in
    let t : Transfer = c.remove-transfer.result in
    let o = c.in-Some-named_region.owned in
    let found = c.remove-transfer.ensures.removed in
    let is : IsInputOf Move k.devices t = found_case (IsInputOf Move k.devices) k c.args.id.0 t c.requires.case found in
    let ready = found_over k c.args.id.0 t c.requires.accepted found in
    let had = is_had k t o c.in-Some-named_region.ensures.found in
    let h = has_buffer k c.args.id.0 t c.in-Inward.plan c.requires.good found is.early (ap is_strong is.class_is) is.inward c.in-Inward.is in
    region_unheld k c.args.id.0 t o.region c.requires.good found (ap is_strong is.class_is) is.class_is had.names (region_owned c.end_laws.ensures c.change_laws.ensures c.copy_laws.ensures c.swap_laws.ensures c.moves_end_in_zeros.ensures.can k c.args.id.0 c.in-Some.field-0 t o c.in-Inward.plan.loans.items c.requires.good found ready is c.in-Some.is had h)

pub fill_object-requires-clause-can : goal.fill_object-requires-clause-can
fill_object-requires-clause-can c =
    let k : Kernel = c.args.kernel.now in
    let t : Transfer = c.remove-transfer.result in
    let o = c.in-Some-named_region.owned in
    let found = c.remove-transfer.ensures.removed in
    let is : IsInputOf Move k.devices t = found_case (IsInputOf Move k.devices) k c.args.id.0 t c.requires.case found in
    let ready = found_over k c.args.id.0 t c.requires.accepted found in
    let had = is_had k t o c.in-Some-named_region.ensures.found in
    let h = has_buffer k c.args.id.0 t c.in-Inward.plan c.requires.good found is.early (ap is_strong is.class_is) is.inward c.in-Inward.is in
    λ m clears. subst (λ (l : List InLoan). CanStoreBuffer m o.region.object.0 0 t.stored 0 (input_frames l)) (sym c.as_slice.ensures.value) (can_fill c.end_laws.ensures c.change_laws.ensures c.copy_laws.ensures c.swap_laws.ensures c.moves_end_in_zeros.ensures.can k c.args.id.0 c.in-Some.field-0 t o c.in-Inward.plan.loans.items c.requires.good found ready is c.in-Some.is had h m clears c.requires.meters)

pub make_live-requires-clause-there : goal.make_live-requires-clause-there
make_live-requires-clause-there c =
    let o = c.in-Some-named_region.owned in
    let had = is_had c.args.kernel.now c.remove-transfer.result o c.in-Some-named_region.ensures.found in
    ap is_some (ap (λ e. find (has_id o.region.id.0) (regions_of e)) had.there ∙ had.found)

pub overflow_mul-result : goal.overflow_mul-result
overflow_mul-result c =
    let o = c.in-Some-named_region.owned in
    let had = is_had c.args.kernel.now c.remove-transfer.result o c.in-Some-named_region.ensures.found in
    let low = low_address c.args.kernel.now o.pid c.get-page.result had.regions o.region c.requires.good had.there (find_has (has_id o.region.id.0) had.regions o.region had.found).0 (c.get-page.ensures.number ∙ c.page.ensures ∙ c.requires.good.spaced.page) in
    omega (arith, low)

pub returns-clause-ends : goal.returns-clause-ends
returns-clause-ends c =
    let k : Kernel = c.args.kernel.now in
    let t : Transfer = c.remove-transfer.result in
    let o = c.in-Some-named_region.owned in
    let found = c.remove-transfer.ensures.removed in
    let is : IsInputOf Move k.devices t = found_case (IsInputOf Move k.devices) k c.args.id.0 t c.requires.case found in
    let ready = found_over k c.args.id.0 t c.requires.accepted found in
    let had = is_had k t o c.in-Some-named_region.ensures.found in
    let h = has_buffer k c.args.id.0 t c.in-Inward.plan c.requires.good found is.early (ap is_strong is.class_is) is.inward c.in-Inward.is in
    let fills : FillsObject k.memory c.fill_object.new.memory o.region.object.0 t.stored (input_frames c.in-Inward.plan.loans.items) = subst (λ (l : List InLoan). FillsObject k.memory c.fill_object.new.memory o.region.object.0 t.stored (input_frames l)) c.as_slice.ensures.value c.fill_object.ensures.fills in
    let page : c.get-page.result ≡ k.config.page = c.get-page.ensures.number ∙ c.page.ensures ∙ c.requires.good.spaced.page in
    let after : List Transfer → Kernel = λ ts. record k { memory = c.fill_object.new.memory; transfers = ts } in
    let regions : regions_of (entry k.spaces.processes o.pid) ≡ had.regions = ap regions_of had.there in
    let same : c.make_live.new.kernel ≡ lively (after (without (has_number c.args.id.0) k.transfers)) o.pid o.region.id.0 had.regions = c.make_live.ensures ∙ (λ i. lively (after (c.remove-transfer.ensures.others i)) o.pid o.region.id.0 (regions i)) in
    let ended = move_ends c.end_laws.ensures c.change_laws.ensures c.copy_laws.ensures c.swap_laws.ensures c.moves_end_in_zeros.ensures.can k c.args.id.0 c.in-Some.field-0 t o c.in-Inward.plan.loans.items c.requires.good found ready is c.in-Some.is had h c.fill_object.new.memory fills c.requires.accepted in
    subst (λ (x : Kernel). EndsPaged k c.args.id.0 x (reply.Input (Some (o.region.start * c.get-page.result)) t.stored t.note)) (sym same) (subst (λ (z : ℕ). EndsPaged k c.args.id.0 (lively (after (without (has_number c.args.id.0) k.transfers)) o.pid o.region.id.0 had.regions) (reply.Input (Some (o.region.start * z)) t.stored t.note)) (sym page) ended)

pub returns-in-None-clause-copying : goal.returns-in-None-clause-copying
returns-in-None-clause-copying c = back_keeps c.args.kernel.now c.give_back.new.frames c.args.id.0 reply.Gone c.remove-transfer.result c.give_back.ensures

pub returns-in_default-clause-copying : goal.returns-in_default-clause-copying
returns-in_default-clause-copying c = back_keeps c.args.kernel.now c.give_back-in_default.new.frames c.args.id.0 reply.Lost c.remove-transfer.result c.give_back-in_default.ensures

pub returns-clause-copying : goal.returns-clause-copying
returns-clause-copying c =
    let k : Kernel = c.args.kernel.now in
    let t : Transfer = c.remove-transfer.result in
    let found = c.remove-transfer.ensures.removed in
    let is : IsInputOf Move k.devices t = found_case (IsInputOf Move k.devices) k c.args.id.0 t c.requires.case found in
    let filled = copies_same k.memory.frames.page k.memory c.fill_object.new.memory c.make_live.new.kernel.memory (ap (λ (z : Kernel). z.memory.frames.meters) c.make_live.ensures) c.fill_object.ensures.copies in
    move_keeps k c.make_live.new.kernel c.args.id.0 c.in-Some.field-0 t (Some (c.in-Some-named_region.owned.region.start * c.get-page.result)) t.stored t.note c.requires.good found is c.in-Some.is filled
