use Rattle.std.proofs.Common.{◌≢◌, ℕ, All, refl, sym, subst}
use Rattle.genie_base.specs.declared.config.Config.{Config}
use Rattle.genie_kernel.specs.Handles.{handles}
use Rattle.genie_playing.specs.Costs.{answer}
use Rattle.genie_playing.specs.Lemmas.Readying.{ready_kept}
use Rattle.genie_playing.proofs.serving.serve.Goals as goal

pub returns-in-Ok-clause-ready : goal.returns-in-Ok-clause-ready
returns-in-Ok-clause-ready g c = ready_kept 0 _ _ _ _ c.write_answer.ensures.only (record {
  good = c.step-reply.ensures.good;
  sized = c.step-reply.ensures.sized;
  handles_open = c.step-reply.ensures.handles;
  unread = subst (λ (q : Config). All (λ (h : ℕ). h ≢ 1) (handles q)) (sym c.step-reply.ensures.config) c.requires.ready.unread;
})

pub returns-in-Err-clause-ready : goal.returns-in-Err-clause-ready
returns-in-Err-clause-ready g c = ready_kept 0 _ _ _ _ c.write_answer.ensures.only (record {
  good = c.step-reply.ensures.good;
  sized = c.step-reply.ensures.sized;
  handles_open = c.step-reply.ensures.handles;
  unread = subst (λ (q : Config). All (λ (h : ℕ). h ≢ 1) (handles q)) (sym c.step-reply.ensures.config) c.requires.ready.unread;
})

pub returns-in-Err-clause-answers : goal.returns-in-Err-clause-answers
returns-in-Err-clause-answers g c = record {
  answer = answer c.step-reply.result c.raise-cost.result;
  stepped = g.H.Host.view c.step-reply.new.host;
  steps = record {
    serves = record {
      step = c.step-reply.ensures.step;
      cause = c.step-reply.ensures.causes;
      others = c.step-reply.ensures.others;
      kept = c.step-reply.ensures.kept;
      config = c.step-reply.ensures.config;
      rises = c.step-reply.ensures.rises;
      numbers = c.step-reply.ensures.numbers;
      refused = c.step-reply.ensures.refused;
      copying = c.step-reply.ensures.copying;
      sharing = c.step-reply.ensures.sharing;
      filled = c.step-reply.ensures.filled;
      lands = c.step-reply.ensures.lands;
      gets = c.step-reply.ensures.gets;
    };
    cost = rw (c.meters-before.ensures, c.meters.ensures) at c.raise-cost.ensures;
  };
  write = record { only = c.write_answer.ensures.only; whole = tt; front = c.in-Err.ensures.front; cause = record { later = c.write_answer.ensures.cause.later; failed = c.in-Err.ensures.cause.failed; kept = tt } };
  stop = refl;
}
