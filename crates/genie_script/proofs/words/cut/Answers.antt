use Rattle.std.proofs.Common.{◌≡◌, ◌+◌, ◌-◌, length, length-drop, take, take_all, drop, arith}
use Rattle.genie_script.proofs.Parts.{cut_none, cut_some}
use Rattle.genie_script.proofs.words.cut.Goals as goal

pub returns-in-None-clause-back : goal.returns-in-None-clause-back
returns-in-None-clause-back c = (cut_none c.args.byte c.args.text.now c.in-None.ensures).1

pub returns-in-Some-clause-back : goal.returns-in-Some-clause-back
returns-in-Some-clause-back c =
    let t = c.args.text.now in
    let at = c.in-Some.at in
    let whole : take (length t - (at + 1)) (drop (at + 1) t) ≡ drop (at + 1) t = take_all _ _ (omega (arith, length-drop (at + 1) t)) in
    rw whole (cut_some c.args.byte t at c.in-Some.ensures).1
