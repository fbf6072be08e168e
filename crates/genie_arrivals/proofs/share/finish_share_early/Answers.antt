use Rattle.std.proofs.Common.{◌≡◌, List, sym, subst, ap, ◌∙◌}
use Rattle.genie_base.specs.declared.reply.Reply.{Reply}
use Rattle.genie_base.specs.declared.semantics.Class.TheVariants.{Share}
use Rattle.genie_model.specs.Tables.{without}
use Rattle.genie_kernel.specs.declared.kernel.Kernel.{Kernel}
use Rattle.genie_kernel.specs.declared.transfer.Transfer.{Transfer}
use Rattle.genie_kernel.specs.Calls.{has_number}
use Rattle.genie_kernel.specs.Regions.{owned_regions}
use Rattle.genie_arrivals.specs.Cases.{IsInputOf}
use Rattle.genie_arrivals.specs.Ends.{EndsAlone}
use Rattle.genie_arrivals.specs.Replies.{is_there, share_reply}
use Rattle.genie_arrivals.proofs.Found.{found_case, found_over, found_some}
use Rattle.genie_arrivals.proofs.Lent.{can_give_back}
use Rattle.genie_arrivals.proofs.Quiet.{ends_quietly}
use Rattle.genie_arrivals.proofs.Replying.{share_finish, share_unfailed}
use Rattle.genie_arrivals.proofs.EarlyCosts.{back_keeps}
use Rattle.genie_arrivals.proofs.share.finish_share_early.Goals as goal

pub remove-transfer-requires : goal.remove-transfer-requires
remove-transfer-requires c = found_some c.args.kernel.now c.args.id.0 c.requires.accepted

pub give_back-requires : goal.give_back-requires
give_back-requires c = can_give_back c.args.kernel.now c.args.id.0 c.remove-transfer.result c.requires.good c.remove-transfer.ensures.removed (found_case (IsInputOf Share c.args.kernel.now.devices) c.args.kernel.now c.args.id.0 c.remove-transfer.result c.requires.case c.remove-transfer.ensures.removed).inward

pub returns-clause-ends : goal.returns-clause-ends
returns-clause-ends c =
    let t : Transfer = c.remove-transfer.result in
    let found = c.remove-transfer.ensures.removed in
    let is : IsInputOf Share c.args.kernel.now.devices t = found_case (IsInputOf Share c.args.kernel.now.devices) c.args.kernel.now c.args.id.0 t c.requires.case found in
    let there = is_there (owned_regions c.args.kernel.now.spaces.processes) t in
    let replied : c.share_reply.result ≡ share_reply there t t.owner = c.share_reply.ensures ∙ ap (λ b. share_reply b t t.owner) c.is_there-there.ensures in
    let after : List Transfer → Kernel = λ ts. record (c.args.kernel.now) { memory = record (c.args.kernel.now.memory) { frames = c.give_back.new.frames }; transfers = ts } in
    let ended : EndsAlone c.args.kernel.now c.args.id.0 (after (without (has_number c.args.id.0) c.args.kernel.now.transfers)) (share_reply there t t.owner) = ends_quietly c.end_laws.ensures c.args.kernel.now c.args.id.0 t c.requires.good found (found_over c.args.kernel.now c.args.id.0 t c.requires.accepted found) c.give_back.new.frames c.len.ensures.shaped c.len.ensures.lent c.give_back.ensures is.early (share_reply there t t.owner) (share_unfailed there t t.owner) (λ b. share_finish c.args.kernel.now b c.args.id.0 t found is) c.requires.accepted in
    subst (λ (r : Reply). EndsAlone c.args.kernel.now c.args.id.0 (after c.remove-transfer.new.self) r) (sym replied) (subst (λ (ts : List Transfer). EndsAlone c.args.kernel.now c.args.id.0 (after ts) (share_reply there t t.owner)) (sym c.remove-transfer.ensures.others) ended)

pub returns-clause-copying : goal.returns-clause-copying
returns-clause-copying c = back_keeps c.args.kernel.now c.give_back.new.frames c.args.id.0 c.share_reply.result c.remove-transfer.result c.give_back.ensures
