use Rattle.std.proofs.Common.{rules, string_bytes}
use Rattle.genie_words.proofs.Plain.{plain_texts, unplain_unasked}
use Rattle.genie_words.proofs.found.subcommand.Goals as goal

pub returns-then-not-are_plain-clause-usage : goal.returns-then-not-are_plain-clause-usage
returns-then-not-are_plain-clause-usage c h = unplain_unasked string_bytes c.args.words.now (let e = c.are_plain.ensures in search rules)

pub words_of-requires-clause-plain : goal.words_of-requires-clause-plain
words_of-requires-clause-plain c = plain_texts string_bytes c.args.words.now (let e = c.are_plain.ensures in search rules)
