use Rattle.std.proofs.Common.{refl}
use Rattle.command_words.specs.Asked.{are_taken}
use Rattle.command_words.specs.Options.{setting_named}
use Rattle.command_words.specs.Parts.{parts_from}
use Rattle.trace_text.specs.Before.{is_held, has_ended, was_posted}
use Rattle.trace_text.specs.Grammar.{thread_of, command_of, number_at, name_at, tray_read, one_number, two_numbers, three_numbers, call_read, fitting, filled_line, line_of, lines_after, version_of, reading_of}
use Rattle.trace_text.specs.Numbers.{numeral_value}
use Rattle.trace_replay.specs.SerialText.{verdict}
use Rattle.trace_replay.proofs.examples.others_are_refused.Goals as goal

pub returns : goal.returns
unfolding verdict parts_from are_taken setting_named reading_of version_of lines_after line_of filled_line thread_of command_of call_read one_number two_numbers three_numbers number_at name_at tray_read numeral_value fitting is_held has_ended was_posted
returns c = record {
  empty = refl;
  cut = refl;
  held = refl;
  fault_first = refl;
  too_long = λ bytes h. rw h refl;
  word = refl;
  word_before_fault = refl;
  fault_of_a_summary = refl;
  unknown_word = refl;
  past_its_range = refl;
}
