use Rattle.std.proofs.Common.{arith, sym, ◌∙◌, ℕ, ap}
use Rattle.genie_base.specs.Bytes.{overlaid, part}
use Rattle.genie_frame.specs.FrameTable.{bytes_at}
use Rattle.genie_finish.proofs.Completed.{whole_laid, copied_frames, copied_spends}
use Rattle.genie_object.specs.Sound.{IsFramed}
use Rattle.genie_object.specs.Objects.{entry_at}
use Rattle.genie_finish.proofs.page.complete.Goals as goal

pub returns-then-n-page-clause-bytes : goal.returns-then-n-page-clause-bytes
returns-then-n-page-clause-bytes c slots told = whole_laid c.args.memory.now c.args.frame.0 c.args.at.object.0 c.args.at.index c.args.off c.args.n slots c.requires.sound c.requires.frame (c.if-n-page.true ∙ c.page.ensures.size) c.requires.range told

framed : (c : goal.After-reverse_copy_out) → IsFramed c.args.memory.now.pages.pages (entry_at c.args.memory.now.objects c.args.at.object.0 c.args.at.index).page
framed c = c.requires.framed (omega (arith, c.requires.range, c.if-n-page.false, c.page.ensures.size)) (sym c.is_untouched.ensures ∙ c.if-is_untouched.false)

pub returns-clause-frames : goal.returns-clause-frames
returns-clause-frames c = copied_frames c.args.memory.now c.reverse_copy_out.new.memory.frames c.args.frame.0 c.args.off c.args.n _ _ (λ (h : ℕ). overlaid c.args.off (part c.args.off c.args.n (bytes_at c.args.memory.now.frames c.args.frame.0)) (bytes_at c.args.memory.now.frames h)) (framed c) (omega (arith, c.requires.frame, c.requires.sound.shaped.filled)) c.reverse_copy_out.ensures.frames

pub returns-clause-spends : goal.returns-clause-spends
returns-clause-spends c = copied_spends c.args.memory.now c.reverse_copy_out.new.memory.frames c.args.frame.0 _ _ _ (λ (h : ℕ). overlaid c.args.off (part c.args.off c.args.n (bytes_at c.args.memory.now.frames c.args.frame.0)) (bytes_at c.args.memory.now.frames h)) (framed c) c.reverse_copy_out.ensures.frames (omega arith)
