use Rattle.std.proofs.Common.{◌∙◌, ap, length, sym}
use Rattle.genie_embed.proofs.Loans.{counts_back, is_out, owner_back, part_whole}
use Rattle.genie_embed.proofs.lending.send_page.Goals as goal

pub dma_out-requires-clause-out : goal.dma_out-requires-clause-out
dma_out-requires-clause-out c = rw (c.lend_strong-loan.ensures.loan, c.lend_strong-loan.ensures.frames) (is_out c.args.frames.now c.args.f.0 c.requires.there c.len.ensures.shaped)

pub copy_from_slice-requires : goal.copy_from_slice-requires
copy_from_slice-requires c =
    c.requires.device ∙ sym (ap length c.dma_out.ensures ∙ rw (c.lend_strong-loan.ensures.loan, c.lend_strong-loan.ensures.frames) (part_whole c.args.frames.now c.args.f.0 c.requires.there c.len.ensures.shaped _ c.requires.range))

pub back_out-requires-clause-out : goal.back_out-requires-clause-out
back_out-requires-clause-out c = rw (c.lend_strong-loan.ensures.loan, c.lend_strong-loan.ensures.frames) (is_out c.args.frames.now c.args.f.0 c.requires.there c.len.ensures.shaped)

pub returns-clause-owner : goal.returns-clause-owner
returns-clause-owner c = rw (c.back_out.ensures.frames, c.lend_strong-loan.ensures.loan, c.lend_strong-loan.ensures.frames) (owner_back c.args.frames.now c.args.f.0 c.requires.there c.len.ensures.shaped c.requires.owned)

pub returns-clause-loans : goal.returns-clause-loans
returns-clause-loans c = rw (c.back_out.ensures.frames, c.lend_strong-loan.ensures.loan, c.lend_strong-loan.ensures.frames) (counts_back c.args.frames.now c.args.f.0 c.requires.there c.len.ensures.shaped)
