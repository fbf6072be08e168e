use Rattle.std.proofs.Common.{List, refl, sym, subst}
use Rattle.genie_base.specs.declared.reply.Reply.TheVariants as reply
use Rattle.genie_base.specs.declared.semantics.Class.TheVariants.{Copy}
use Rattle.genie_kernel.specs.declared.kernel.Kernel.{Kernel}
use Rattle.genie_kernel.specs.declared.transfer.Transfer.{Transfer}
use Rattle.genie_arrivals.specs.Cases.{IsInputOf}
use Rattle.genie_arrivals.specs.Ends.{EndsAlone}
use Rattle.genie_arrivals.specs.Targets.{HasNoTarget}
use Rattle.genie_arrivals.proofs.Finishing.{copy_lost}
use Rattle.genie_arrivals.proofs.Found.{found_case, found_over, found_some}
use Rattle.genie_arrivals.proofs.Lent.{can_give_back}
use Rattle.genie_arrivals.proofs.Quiet.{ends_quietly}
use Rattle.genie_arrivals.proofs.Replying.{gone_finish}
use Rattle.genie_arrivals.proofs.copy.drop_copy.Goals as goal

pub remove-transfer-requires : goal.remove-transfer-requires
remove-transfer-requires c = found_some c.args.kernel.now c.args.id.0 c.requires.accepted

pub give_back-requires : goal.give_back-requires
give_back-requires c = can_give_back c.args.kernel.now c.args.id.0 c.remove-transfer.result c.requires.good c.remove-transfer.ensures.removed (found_case (IsInputOf Copy c.args.kernel.now.devices) c.args.kernel.now c.args.id.0 c.remove-transfer.result c.requires.case c.remove-transfer.ensures.removed).inward

pub returns-in-None : goal.returns-in-None
returns-in-None c =
    let k : Kernel = c.args.kernel.now in
    let t : Transfer = c.remove-transfer.result in
    let found = c.remove-transfer.ensures.removed in
    let is : IsInputOf Copy k.devices t = found_case (IsInputOf Copy k.devices) k c.args.id.0 t c.requires.case found in
    let after : List Transfer → Kernel = λ ts. record k { memory = record (k.memory) { frames = c.give_back.new.frames }; transfers = ts } in
    subst (λ (ts : List Transfer). EndsAlone k c.args.id.0 (after ts) reply.Gone) (sym c.remove-transfer.ensures.others) (ends_quietly c.end_laws.ensures k c.args.id.0 t c.requires.good found (found_over k c.args.id.0 t c.requires.accepted found) c.give_back.new.frames c.len.ensures.shaped c.len.ensures.lent c.give_back.ensures is.early reply.Gone refl (λ b. gone_finish k b c.args.id.0 t found c.in-None.is) c.requires.accepted)

pub returns-in-Some : goal.returns-in-Some
returns-in-Some c =
    let k : Kernel = c.args.kernel.now in
    let t : Transfer = c.remove-transfer.result in
    let found = c.remove-transfer.ensures.removed in
    let is : IsInputOf Copy k.devices t = found_case (IsInputOf Copy k.devices) k c.args.id.0 t c.requires.case found in
    let none : HasNoTarget k t = found_case (HasNoTarget k) k c.args.id.0 t c.requires.target found in
    let after : List Transfer → Kernel = λ ts. record k { memory = record (k.memory) { frames = c.give_back.new.frames }; transfers = ts } in
    subst (λ (ts : List Transfer). EndsAlone k c.args.id.0 (after ts) reply.Lost) (sym c.remove-transfer.ensures.others) (ends_quietly c.end_laws.ensures k c.args.id.0 t c.requires.good found (found_over k c.args.id.0 t c.requires.accepted found) c.give_back.new.frames c.len.ensures.shaped c.len.ensures.lent c.give_back.ensures is.early reply.Lost refl (λ b. copy_lost k b c.args.id.0 c.in-Some.field-0 t found c.in-Some.is is.inward is.class_is (none c.in-Some.field-0 c.in-Some.is)) c.requires.accepted)
