use lib.Count.{ones}
use Rattle.std.proofs.Common.{refl}
use Rattle.trace_text.specs.Numbers.{numeral_value}
use Rattle.command_words.specs.Asked.{are_taken}
use Rattle.command_words.specs.Options.{setting_named}
use Rattle.command_words.specs.Parts.{parts_from}
use Rattle.text_tests.proofs.word_examples.words_are_refused.Goals as goal

pub returns : goal.returns
unfolding ones numeral_value are_taken setting_named parts_from
returns c = record {
  no_option = refl;
  empty = refl;
  unknown = refl;
  shortened = refl;
  no_value = refl;
  empty_value = refl;
  past = refl;
  negative = refl;
  leading_zero = refl;
  no_power = refl;
  no_page = refl;
  twice = refl;
  hyphens = refl;
  value_of_a_flag = refl;
  summary_of_threads = refl;
  summary_of_a_trim = refl;
  one_of_a_pair = refl;
}
