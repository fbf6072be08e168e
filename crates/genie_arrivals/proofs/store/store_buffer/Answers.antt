use Rattle.std.proofs.Common.{◌≡◌, ◌+◌, ◌*◌, ◌%◌, ◌<◌, ◌≤◌, ℕ, List, arith, length, subst, sym, ap, take, drop, ◌∙◌}
use Rattle.genie_frame.specs.declared.frame.InLoan.{InLoan}
use Rattle.genie_base.specs.Counts.{span}
use Rattle.genie_input.specs.Buffers.{AreBuffers}
use Rattle.genie_plan.specs.Loans.{AreOut, Ended, input_loans}
use Rattle.genie_plan.specs.Plans.{input_frames}
use Rattle.genie_object.specs.Lemmas.Works.{page_most}
use Rattle.genie_arrivals.specs.Stored.{StoresBuffer}
use Rattle.genie_arrivals.proofs.Joining.{buffer_stored, buffers_taken, frames_split, frames_taken, rest_out, rest_taken}
use Rattle.genie_arrivals.proofs.Rising.{rises_stored}
use Rattle.genie_arrivals.proofs.EarlyCosts.{copies_stored}
use Rattle.genie_arrivals.proofs.store.store_buffer.Goals as goal

pub store_range-requires-clause-buffers : goal.store_range-requires-clause-buffers
store_range-requires-clause-buffers c = buffers_taken c.args.memory.now.frames c.page_count-count.result c.args.loans.now c.requires.buffers

pub end_inputs-requires : goal.end_inputs-requires
end_inputs-requires c =
    let n = c.page_count-count.result in
    let l : List InLoan = c.args.loans.now in
    let split = subst (AreBuffers c.args.memory.now.frames) (frames_split n l) c.requires.buffers in
    subst (λ (b : List InLoan). AreOut c.store_range.new.memory.frames (input_loans b)) (sym (rest_taken n l)) (rest_out c.args.memory.now c.store_range.new.memory c.args.range.now.object.0 c.args.range.now.off c.args.range.now.len c.args.few (take n l) (drop n l) c.requires.sound split c.store_range.ensures.stored)

pub returns-clause-stores : goal.returns-clause-stores
returns-clause-stores c =
    let n = c.page_count-count.result in
    let l : List InLoan = c.args.loans.now in
    let m = c.args.memory.now in
    let split = subst (AreBuffers m.frames) (frames_split n l) c.requires.buffers in
    let page : c.page.result ≡ m.frames.page = c.page.ensures.size in
    let number : n ≡ span m.frames.page c.args.range.now.off c.args.range.now.len = c.page_count-count.ensures.number ∙ ap (λ (z : ℕ). span z c.args.range.now.off c.args.range.now.len) page in
    let long : length (input_frames (take n l)) ≡ n = frames_taken n l (omega (arith, number, c.requires.number)) in
    let covers : 0 < c.args.range.now.len → c.args.range.now.off % m.frames.page + c.args.range.now.len ≤ m.frames.page * n = subst (λ (z : ℕ). 0 < c.args.range.now.len → c.args.range.now.off % z + c.args.range.now.len ≤ z * n) page c.page_count-count.ensures.covers in
    let covered = subst (λ (z : ℕ). 0 < c.args.range.now.len → c.args.range.now.off % m.frames.page + c.args.range.now.len ≤ m.frames.page * z) (sym long) covers in
    let ended : Ended (input_loans (drop n l)) c.store_range.new.memory.frames c.end_inputs.new.frames = subst (λ (b : List InLoan). Ended (input_loans b) c.store_range.new.memory.frames c.end_inputs.new.frames) (rest_taken n l) c.end_inputs.ensures in
    let few : length (input_frames (take n l)) ≤ 65 = omega (arith, long, number, c.requires.number, c.requires.most) in
    let rises = rises_stored m c.store_range.new.memory c.end_inputs.new.frames c.args.range.now.object.0 c.args.range.now.off c.args.range.now.len c.args.few (input_frames (take n l)) (input_loans (drop n l)) (page_most m.frames.page c.requires.sound.shaped.size) few c.store_range.ensures.stored ended in
    subst (λ (f : List ℕ). StoresBuffer m (record (c.store_range.new.memory) { frames = c.end_inputs.new.frames }) c.args.range.now.object.0 c.args.range.now.off c.args.range.now.len f) (sym (frames_split n l)) (buffer_stored m c.store_range.new.memory c.args.range.now.object.0 c.args.range.now.off c.args.range.now.len c.args.few (take n l) (drop n l) c.requires.sound split c.store_range.ensures.stored c.ended_loans_show_what_was_seen.ensures.sound c.ended_loans_show_what_was_seen.ensures.seen c.end_inputs.new.frames (long ∙ number) covered c.len.ensures.shaped c.len.ensures.lent ended rises)

pub returns-clause-copies : goal.returns-clause-copies
returns-clause-copies c =
    let n = c.page_count-count.result in
    let l : List InLoan = c.args.loans.now in
    let m = c.args.memory.now in
    let page : c.page.result ≡ m.frames.page = c.page.ensures.size in
    let number : n ≡ span m.frames.page c.args.range.now.off c.args.range.now.len = c.page_count-count.ensures.number ∙ ap (λ (z : ℕ). span z c.args.range.now.off c.args.range.now.len) page in
    let long : length (input_frames (take n l)) ≡ n = frames_taken n l (omega (arith, number, c.requires.number)) in
    let ended : Ended (input_loans (drop n l)) c.store_range.new.memory.frames c.end_inputs.new.frames = subst (λ (b : List InLoan). Ended (input_loans b) c.store_range.new.memory.frames c.end_inputs.new.frames) (rest_taken n l) c.end_inputs.ensures in
    copies_stored m c.store_range.new.memory c.end_inputs.new.frames c.args.range.now.object.0 c.args.range.now.off c.args.range.now.len c.args.few (input_frames (take n l)) (input_loans (drop n l)) (long ∙ number) c.store_range.ensures.stored ended
