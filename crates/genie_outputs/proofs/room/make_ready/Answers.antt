use Rattle.std.proofs.Common.{refl, ◌∙◌}
use Rattle.genie_outputs.proofs.Reached.{range_fits, range_frames, range_low}
use Rattle.genie_outputs.proofs.room.make_ready.Goals as goal

pub range_in-range-requires : goal.range_in-range-requires
range_in-range-requires g c = range_low c.output_laws.ensures c.args.kernel.now c.args.call.now c.region_reached-region.result _ c.get-page.result c.requires.good c.region_reached-region.ensures (c.get-page.ensures.number ∙ c.page.ensures ∙ c.requires.good.spaced.page) refl

pub page_count-requires-clause-fits : goal.page_count-requires-clause-fits
page_count-requires-clause-fits g c = range_fits c.output_laws.ensures c.args.kernel.now c.args.call.now c.region_reached-region.result c.range_in-range.result c.get-page.result c.requires.good c.region_reached-region.ensures (c.get-page.ensures.number ∙ c.page.ensures ∙ c.requires.good.spaced.page) c.range_in-range.ensures

pub make_frames-requires-clause-frames : goal.make_frames-requires-clause-frames
make_frames-requires-clause-frames g c = range_frames c.output_laws.ensures c.args.kernel.now c.args.call.now c.region_reached-region.result c.range_in-range.result c.get-page.result c.requires.good c.region_reached-region.ensures (c.get-page.ensures.number ∙ c.page.ensures ∙ c.requires.good.spaced.page) c.range_in-range.ensures c.page_count.result c.requires.accepted c.page_count.ensures.number
