use Rattle.std.proofs.Common.{◌≡◌, ◌∙◌, sym, ap, true}
use Rattle.clap.specs.Words.{is_simple, is_simple_and_free}
use Rattle.genie_words.specs.Command.{genie}
use Rattle.genie_words.proofs.Parse.{genie_free, form_none, not_form, fault_as, few_texts, simple_from, found_as}
use Rattle.genie_words.specs.declared.form.WordsError.TheVariants as WordsError
use Rattle.genie_words.proofs.found.parsed.Goals as goal

pub returns-in-Ok-try_get_matches_from-clause-ok : goal.returns-in-Ok-try_get_matches_from-clause-ok
returns-in-Ok-try_get_matches_from-clause-ok c =
    let is = c.in-Ok.ensures in
    let none = c.in-Ok-try_get_matches_from.ensures.kinds (ap is_simple_and_free is ∙ genie_free) in
    form_none _ c.requires.plain (few_texts _ _ c.requires.few) (sym (fault_as _ _ is) ∙ none)

pub returns-in-Ok-try_get_matches_from-clause-found : goal.returns-in-Ok-try_get_matches_from-clause-found
returns-in-Ok-try_get_matches_from-clause-found c =
    let is = c.in-Ok.ensures in
    let simple : is_simple genie ≡ true = simple_from genie genie_free in
    (c.in-Ok-try_get_matches_from.ensures.matches (ap is_simple is ∙ simple)).1 ∙ found_as _ _ is

pub returns-in-Err-clause-usage : goal.returns-in-Err-clause-usage
returns-in-Err-clause-usage c h =
    let is = c.in-Ok.ensures in
    let usage : c.cause.result ≡ WordsError.Usage = cc in
    let kinds = c.in-Err.ensures.kinds (ap is_simple_and_free is ∙ genie_free) in
    not_form _ _ c.requires.plain (c.cause.ensures usage) (rw (fault_as _ _ is) at kinds)
