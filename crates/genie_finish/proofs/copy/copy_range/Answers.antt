use Rattle.std.proofs.Common.{◌≡◌, ◌+◌, ◌-◌, ◌*◌, ◌/◌, ◌%◌, ◌<◌, ◌≤◌, ℕ, length, get_or, refl, ap, sym, subst, arith, ◌∙◌}
use Rattle.std.specs.Prelude.{min}
use Rattle.genie_plan.specs.Plans.{input_frames}
use Rattle.genie_plan.specs.Lemmas.Ranges.{frame_at, frames_count}
use Rattle.genie_input.specs.Pools.{no_loan}
use Rattle.genie_finish.proofs.Looping.{page_some}
use Rattle.genie_finish.proofs.Copying.{copied_none, copied_piece, own_now, source_there, source_at}
use Rattle.genie_finish.proofs.copy.copy_range.Goals as goal

pub pieces-init : goal.pieces-init
pieces-init c = copied_none c.args.memory.now c.args.range.now.object.0 c.args.range.now.off c.args.range.now.len c.args.first _ c.requires.sound

pub copy_out-requires-clause-own : goal.copy_out-requires-clause-own
copy_out-requires-clause-own c =
    let m = c.args.memory.now in
    let r = c.args.range.now in
    own_now m c.pieces.memory r.object.0 r.off r.len c.args.first c.pieces.done ((r.off + c.pieces.done) / c.page-page.result) (input_frames c.args.loans.now) (page_some m.frames.page c.requires.sound.shaped.size) c.requires.own c.pieces.invariant (omega arith) (ap (λ q. (r.off + c.pieces.done) / q) c.page-page.ensures.size)

pub copy_out-requires-clause-frame : goal.copy_out-requires-clause-frame
copy_out-requires-clause-frame c =
    let m = c.args.memory.now in
    let r = c.args.range.now in
    let page = c.page-page.ensures.size in
    let some : 0 < c.page-page.result = omega (arith, page, page_some m.frames.page c.requires.sound.shaped.size) in
    let inside : c.args.first + r.len ≤ c.page-page.result * length c.args.loans.now = subst (λ q. c.args.first + r.len ≤ q * length c.args.loans.now) (sym page) c.requires.inside in
    source_there m c.pieces.memory r.object.0 r.off r.len c.args.first c.pieces.done ((c.args.first + c.pieces.done) / c.page-page.result) c.args.loans.now _ c.requires.frames c.pieces.invariant (source_at c.page-page.result (length c.args.loans.now) c.args.first r.len c.pieces.done some inside (omega arith))

pub pieces-preserved : goal.pieces-preserved
pieces-preserved c =
    let m = c.args.memory.now in
    let r = c.args.range.now in
    let page = c.page-page.ensures.size in
    let positive = page_some m.frames.page c.requires.sound.shaped.size in
    let some : 0 < c.page-page.result = omega (arith, page, positive) in
    let less : c.pieces.done < r.len = omega arith in
    let inside : c.args.first + r.len ≤ c.page-page.result * length c.args.loans.now = subst (λ q. c.args.first + r.len ≤ q * length c.args.loans.now) (sym page) c.requires.inside in
    let k = (c.args.first + c.pieces.done) / c.page-page.result in
    let l : k < length c.args.loans.now = source_at c.page-page.result (length c.args.loans.now) c.args.first r.len c.pieces.done some inside less in
    let within : c.args.first + r.len ≤ m.frames.page * length (input_frames c.args.loans.now) = subst (λ q. c.args.first + r.len ≤ m.frames.page * q) (sym (frames_count c.args.loans.now)) c.requires.inside in
    let e = c.copy_out.ensures in
    copied_piece m c.pieces.memory c.copy_out.new.memory r.object.0 r.off r.len c.args.first (input_frames c.args.loans.now) c.pieces.done c.min-n.result ((r.off + c.pieces.done) / c.page-page.result) (get_or c.args.loans.now k no_loan).frame.0 c.page-page.result c.requires.sound positive c.requires.frames within less c.pieces.invariant page (record {
      is_i = refl;
      is_f = frame_at c.args.loans.now k no_loan l;
      n_is = c.min-n.ensures ∙ ap (λ q. min q (r.len - c.pieces.done)) c.min-room.ensures;
      own = own_now m c.pieces.memory r.object.0 r.off r.len c.args.first c.pieces.done ((r.off + c.pieces.done) / c.page-page.result) (input_frames c.args.loans.now) positive c.requires.own c.pieces.invariant less (ap (λ q. (r.off + c.pieces.done) / q) page);
      sound = e.sound;
      shows = e.seen;
      stores = e.frames;
      owners = e.owners;
      counts = e.counts;
      pages = e.pages;
      objects = e.objects;
      slots_same = e.slots;
      same_page = e.page;
    })
