use Rattle.std.proofs.Common.{arith, ◌≡◌, ◌*◌, ℕ, List, refl, sym, subst, ap, ◌∙◌}
use Rattle.std.specs.Prelude.{Some, find, is_some}
use Rattle.genie_base.specs.declared.reply.Reply.TheVariants as reply
use Rattle.genie_base.specs.declared.semantics.Class.TheVariants.{WeakMove}
use Rattle.genie_model.specs.Lemmas.Lists.{find_has}
use Rattle.genie_model.specs.Tables.{entry, without}
use Rattle.genie_kernel.specs.declared.kernel.Kernel.{Kernel}
use Rattle.genie_kernel.specs.declared.transfer.Transfer.{Transfer}
use Rattle.genie_kernel.specs.Calls.{has_number}
use Rattle.genie_kernel.specs.Regions.{has_id, regions_of}
use Rattle.genie_arrivals.specs.Cases.{IsInputOf}
use Rattle.genie_arrivals.specs.Ends.{EndsAlone}
use Rattle.genie_arrivals.specs.Live.{lively}
use Rattle.genie_arrivals.proofs.Found.{found_case, found_over, found_some}
use Rattle.genie_arrivals.proofs.Lent.{can_give_back}
use Rattle.genie_arrivals.proofs.Moving.{is_had, low_address, moves_quietly}
use Rattle.genie_arrivals.proofs.Quiet.{ends_quietly}
use Rattle.genie_arrivals.proofs.Replying.{gone_finish, weak_lost}
use Rattle.genie_arrivals.proofs.EarlyCosts.{alone_keeps, back_keeps}
use Rattle.genie_arrivals.proofs.weak_move.finish_weak_move_early.Goals as goal

pub remove-transfer-requires : goal.remove-transfer-requires
remove-transfer-requires c = found_some c.args.kernel.now c.args.id.0 c.requires.accepted

pub give_back-requires : goal.give_back-requires
give_back-requires c = can_give_back c.args.kernel.now c.args.id.0 c.remove-transfer.result c.requires.good c.remove-transfer.ensures.removed (found_case (IsInputOf WeakMove c.args.kernel.now.devices) c.args.kernel.now c.args.id.0 c.remove-transfer.result c.requires.case c.remove-transfer.ensures.removed).inward

pub returns-in-None-clause-ends : goal.returns-in-None-clause-ends
returns-in-None-clause-ends c =
    let k : Kernel = c.args.kernel.now in
    let t : Transfer = c.remove-transfer.result in
    let found = c.remove-transfer.ensures.removed in
    let is : IsInputOf WeakMove k.devices t = found_case (IsInputOf WeakMove k.devices) k c.args.id.0 t c.requires.case found in
    let after : List Transfer → Kernel = λ ts. record k { memory = record (k.memory) { frames = c.give_back.new.frames }; transfers = ts } in
    subst (λ (ts : List Transfer). EndsAlone k c.args.id.0 (after ts) reply.Gone) (sym c.remove-transfer.ensures.others) (ends_quietly c.end_laws.ensures k c.args.id.0 t c.requires.good found (found_over k c.args.id.0 t c.requires.accepted found) c.give_back.new.frames c.len.ensures.shaped c.len.ensures.lent c.give_back.ensures is.early reply.Gone refl (λ b. gone_finish k b c.args.id.0 t found c.in-None.is) c.requires.accepted)

pub returns-in-None-named_region-clause-ends : goal.returns-in-None-named_region-clause-ends
returns-in-None-named_region-clause-ends c =
    let k : Kernel = c.args.kernel.now in
    let t : Transfer = c.remove-transfer.result in
    let found = c.remove-transfer.ensures.removed in
    let is : IsInputOf WeakMove k.devices t = found_case (IsInputOf WeakMove k.devices) k c.args.id.0 t c.requires.case found in
    let after : List Transfer → Kernel = λ ts. record k { memory = record (k.memory) { frames = c.give_back.new.frames }; transfers = ts } in
    subst (λ (ts : List Transfer). EndsAlone k c.args.id.0 (after ts) reply.Lost) (sym c.remove-transfer.ensures.others) (ends_quietly c.end_laws.ensures k c.args.id.0 t c.requires.good found (found_over k c.args.id.0 t c.requires.accepted found) c.give_back.new.frames c.len.ensures.shaped c.len.ensures.lent c.give_back.ensures is.early reply.Lost refl (λ b. weak_lost k b c.args.id.0 c.in-Some.field-0 t found c.in-Some.is is.inward is.class_is (c.in-None-named_region.ensures.none refl)) c.requires.accepted)

pub make_live-requires-clause-there : goal.make_live-requires-clause-there
make_live-requires-clause-there c =
    let o = c.in-Some-named_region.owned in
    let had = is_had c.args.kernel.now c.remove-transfer.result o c.in-Some-named_region.ensures.found in
    ap is_some (ap (λ e. find (has_id o.region.id.0) (regions_of e)) had.there ∙ had.found)

pub overflow_mul-result : goal.overflow_mul-result
overflow_mul-result c =
    let o = c.in-Some-named_region.owned in
    let had = is_had c.args.kernel.now c.remove-transfer.result o c.in-Some-named_region.ensures.found in
    let low = low_address c.args.kernel.now o.pid c.get-page.result had.regions o.region c.requires.good had.there (find_has (has_id o.region.id.0) had.regions o.region had.found).0 (c.get-page.ensures.number ∙ c.page.ensures ∙ c.requires.good.spaced.page) in
    omega (arith, low)

pub returns-in-Some-named_region-clause-ends : goal.returns-in-Some-named_region-clause-ends
returns-in-Some-named_region-clause-ends c =
    let k : Kernel = c.args.kernel.now in
    let t : Transfer = c.remove-transfer.result in
    let o = c.in-Some-named_region.owned in
    let found = c.remove-transfer.ensures.removed in
    let is : IsInputOf WeakMove k.devices t = found_case (IsInputOf WeakMove k.devices) k c.args.id.0 t c.requires.case found in
    let had = is_had k t o c.in-Some-named_region.ensures.found in
    let page : c.get-page.result ≡ k.config.page = c.get-page.ensures.number ∙ c.page.ensures ∙ c.requires.good.spaced.page in
    let after : List Transfer → Kernel = λ ts. record k { memory = record (k.memory) { frames = c.give_back.new.frames }; transfers = ts } in
    let regions : regions_of (entry k.spaces.processes o.pid) ≡ had.regions = ap regions_of had.there in
    let same : c.make_live.new.kernel ≡ lively (after (without (has_number c.args.id.0) k.transfers)) o.pid o.region.id.0 had.regions = c.make_live.ensures ∙ (λ i. lively (after (c.remove-transfer.ensures.others i)) o.pid o.region.id.0 (regions i)) in
    let ended = moves_quietly c.end_laws.ensures c.change_laws.ensures k c.args.id.0 c.in-Some.field-0 t o c.requires.good found (found_over k c.args.id.0 t c.requires.accepted found) c.give_back.new.frames c.len.ensures.shaped c.len.ensures.lent c.give_back.ensures is c.in-Some.is had c.requires.accepted in
    subst (λ (x : Kernel). EndsAlone k c.args.id.0 x (reply.Input (Some (o.region.start * c.get-page.result)) t.stored t.note)) (sym same) (subst (λ (z : ℕ). EndsAlone k c.args.id.0 (lively (after (without (has_number c.args.id.0) k.transfers)) o.pid o.region.id.0 had.regions) (reply.Input (Some (o.region.start * z)) t.stored t.note)) (sym page) ended)

pub returns-in-None-clause-copying : goal.returns-in-None-clause-copying
returns-in-None-clause-copying c = back_keeps c.args.kernel.now c.give_back.new.frames c.args.id.0 reply.Gone c.remove-transfer.result c.give_back.ensures

pub returns-in-None-named_region-clause-copying : goal.returns-in-None-named_region-clause-copying
returns-in-None-named_region-clause-copying c = back_keeps c.args.kernel.now c.give_back.new.frames c.args.id.0 reply.Lost c.remove-transfer.result c.give_back.ensures

pub returns-in-Some-named_region-clause-copying : goal.returns-in-Some-named_region-clause-copying
returns-in-Some-named_region-clause-copying c = alone_keeps c.args.kernel.now c.make_live.new.kernel c.args.id.0 (reply.Input (Some (c.in-Some-named_region.owned.region.start * c.get-page.result)) c.remove-transfer.result.stored c.remove-transfer.result.note) (returns-in-Some-named_region-clause-ends c).meters
