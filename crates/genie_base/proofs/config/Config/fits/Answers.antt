use Rattle.std.proofs.Common.{◌≡◌, ◌≤◌, ◌+◌, ◌∙◌, ap, not, ℕ, true, IsTrue, arith}
use Rattle.std.specs.Prelude.{Option, Some, None}
use Rattle.std.specs.Option.{option_map, is_some, SomeIff}
use Rattle.std.proofs.lemmas.List.{length-map}
use Rattle.std.proofs.lemmas.List.Elements.{All-map}
use Rattle.std.proofs.lemmas.Bool.Decides.{nat_tests}
use Rattle.genie_base.specs.Configs.{config_of, device_config, Fits, FitsPlace}
use Rattle.genie_base.specs.Lemmas.Mapped.{All-from_map}
use Rattle.genie_base.proofs.config.Config.fits.Goals as goal

-- what is there has its reason
reason : {P : Type 0} (v : ℕ) (o : Option ℕ) → SomeIff o P v → is_some o ≡ true → P
reason v None h e = absurd (cc)
reason v (Some x) h e = h.0

pub returns-then-not-devices_fit : goal.returns-then-not-devices_fit
returns-then-not-devices_fit c = (
  λ t. absurd (cc),
  λ (f : Fits (config_of c.args.self.now)).
      let all = All-from_map (FitsPlace c.args.self.now.page) (option_map device_config) c.args.self.now.devices f.devices in
      let fits : IsTrue c.devices_fit.result = c.devices_fit.ensures.1 all in
      cc,
)

pub returns : goal.returns
returns c =
    let all : IsTrue c.devices_fit.result = c.if-not-devices_fit.false in (
      λ t. record {
        page = reason c.args.self.now.page c.new.result c.new.ensures (c.is_none.ensures ∙ ap not c.if-is_none.false);
        frames_low = omega arith;
        frames_high = omega arith;
        slots_low = omega arith;
        slots_high = omega arith;
        copy_out = omega arith;
        reverse_copy_out = omega arith;
        table = simp length-map (omega arith);
        devices = All-map (FitsPlace c.args.self.now.page) (option_map device_config) c.args.self.now.devices (c.devices_fit.ensures.0 all);
        pool = let small : c.pool.result + 8 ≤ c.from-3.result = grind (arith, nat_tests, t) in omega (arith, c.pool.ensures.frames);
      },
      λ (f : Fits (config_of c.args.self.now)). let p = f.pool in let small : c.pool.result + 8 ≤ c.from-3.result = omega (arith, c.pool.ensures.frames) in grind (arith, nat_tests, small),
    )
