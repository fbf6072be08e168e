use Rattle.std.proofs.Common.{Err, ap, ◌≡◌}
use Rattle.genie_words.specs.declared.form.WordsError.TheVariants.{Usage}
use Rattle.genie_words.proofs.Meanings.{unasked_no_form}
use Rattle.genie_words.proofs.form.form_of.Goals as goal

pub returns-in-Err-clause-usage : goal.returns-in-Err-clause-usage
returns-in-Err-clause-usage c h = let is : c.in-Err.error ≡ Usage = cc in unasked_no_form _ (c.in-Err.ensures.usage (ap Err is))
