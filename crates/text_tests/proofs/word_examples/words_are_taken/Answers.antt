use lib.Count.{ones}
use Rattle.std.proofs.Common.{refl}
use Rattle.trace_text.specs.Numbers.{numeral_value}
use Rattle.command_words.specs.Asked.{are_taken}
use Rattle.command_words.specs.Options.{setting_named}
use Rattle.command_words.specs.Parts.{parts_from}
use Rattle.text_tests.proofs.word_examples.words_are_taken.Goals as goal

pub returns : goal.returns
unfolding ones numeral_value are_taken setting_named parts_from
returns c = record {
  nothing = refl;
  the_name = refl;
  a_value_behind = refl;
  a_value_within = refl;
  a_cached_size = refl;
  threads = refl;
  a_pair = refl;
  a_pad = refl;
}
