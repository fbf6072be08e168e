use Rattle.std.proofs.Common.{arith, sym}
use Rattle.genie_hiding.specs.Hidden.{objects_of}
use Rattle.genie_hiding.specs.Lemmas.Making.{rooms_on}
use Rattle.genie_pageout.proofs.Swept.{went_all}
use Rattle.std.specs.Prelude.{◌≡◌, ◌-◌}
use Rattle.genie_pageout.specs.Going.{may_go_from}
use Rattle.genie_pageout.proofs.Rounds.{joined}
use Rattle.genie_pageout.proofs.puts.put_all.Goals as goal

pub returns-in-Ok-put_range-clause-number : goal.returns-in-Ok-put_range-clause-number
returns-in-Ok-put_range-clause-number g c =
    let a = c.in-Ok.ensures in
    let b = c.in-Ok-put_range.ensures in
    went_all (objects_of c.args.hidden.now) c.args.memory.now c.put_range.new.memory c.put_range-2.new.memory c.args.n c.place-place.result c.len-frames.result c.in-Ok.first c.in-Ok-put_range.second (omega (arith, c.len-frames.ensures.number, a.room.keeps.number, b.room.keeps.number)) a.few b.few a.went b.went b.gone a.end b.end

pub returns-in-Ok-put_range-clause-room : goal.returns-in-Ok-put_range-clause-room
returns-in-Ok-put_range-clause-room g c = rooms_on _ _ _ _ _ _ _ c.in-Ok.ensures.room c.in-Ok-put_range.ensures.room

pub returns-in-Err-put_range-clause-room : goal.returns-in-Err-put_range-clause-room
returns-in-Err-put_range-clause-room g c = rooms_on _ _ _ _ _ _ _ c.in-Ok.ensures.room c.in-Err-put_range.ensures.room

pub returns-in-Ok-put_range-clause-clock : goal.returns-in-Ok-put_range-clause-clock
returns-in-Ok-put_range-clause-clock g c =
    let a = c.in-Ok.ensures in
    let b = c.in-Ok-put_range.ensures in
    let hidden = objects_of c.args.hidden.now in
    let from = c.args.memory.now in
    let mid = c.put_range.new.memory in
    let new = c.put_range-2.new.memory in
    joined (may_go_from mid hidden) (may_go_from new hidden) (c.args.n ≡ 0) (c.in-Ok.first ≡ c.args.n) (c.args.n - c.in-Ok.first ≡ 0) (c.in-Ok-put_range.second ≡ c.args.n - c.in-Ok.first) from mid new c.len-frames.result c.place-place.result c.args.clock.now c.put_range.new.clock c.put_range-2.new.clock (sym c.len-frames.ensures.number) c.place-place.ensures.place b.gone (λ e. omega (arith, e)) a.passes b.passes
