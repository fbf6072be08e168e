use Rattle.std.proofs.Common.{◌≡◌, ◌*◌, ◌≤◌, ℕ, sym, subst, ◌∙◌}
use Rattle.genie_model.specs.Tables.{entry}
use Rattle.genie_kernel.specs.Regions.{regions_of}
use Rattle.genie_arrivals.proofs.Reaching.{written_inside}
use Rattle.genie_arrivals.proofs.target.target_of.Goals as goal

pub place_in-requires : goal.place_in-requires
place_in-requires c =
    let page : c.get.result ≡ c.args.kernel.now.spaces.page = c.get.ensures.number ∙ c.page.ensures in
    subst (λ (z : ℕ). c.in-Some-writable_at.region.start * z ≤ c.args.transfer.now.addr) (sym page) (written_inside c.args.kernel.now.spaces.page c.args.transfer.now.addr c.args.transfer.now.len (regions_of (entry c.args.kernel.now.spaces.processes c.in-Some.pid)) c.in-Some-writable_at.region (sym c.writable_at.ensures ∙ c.in-Some-writable_at.is)).low
