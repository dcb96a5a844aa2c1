-- The words for faults, as the program prints them (this project's own).
use Rattle.std.specs.Prelude.{ℕ, List, codes}
use Rattle.trace_text.specs.declared.fault.BadWhy.{BadWhy}
use Rattle.trace_text.specs.declared.fault.BadWhy.TheVariants.{Cut, Header, Fields, Number, Thread, Ended, Command, MainExit, Name, Held, NotHeld, Tray, TrayTwice}

-- the word that is printed for a fault
abbrev pub word_of : BadWhy → List ℕ
word_of Cut = codes "Cut"
word_of Header = codes "Header"
word_of Fields = codes "Fields"
word_of Number = codes "Number"
word_of Thread = codes "Thread"
word_of Ended = codes "Ended"
word_of Command = codes "Command"
word_of MainExit = codes "MainExit"
word_of Name = codes "Name"
word_of Held = codes "Held"
word_of NotHeld = codes "NotHeld"
word_of Tray = codes "Tray"
word_of TrayTwice = codes "TrayTwice"
