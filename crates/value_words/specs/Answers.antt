-- What a reader answers: a bad word says that nothing is read, and want of memory says nothing.
use Rattle.std.specs.Prelude.{◌≡◌, Option, Some, None, Result, Ok, Err}
use Rattle.value_words.specs.declared.faults.WordFault.{WordFault}
use Rattle.value_words.specs.declared.faults.WordFault.TheVariants as word_fault
use Rattle.value_words.specs.Words.{◌>>=◌}

abbrev pub FailsWord : {Y : Type 0} → WordFault → Option Y → Type 0
FailsWord word_fault.BadWord read = read ≡ None
FailsWord word_fault.NoMemory read = Unit {0}

abbrev pub GivesWord : {Y : Type 0} → Result Y WordFault → Option Y → Type 0
GivesWord (Ok x) read = read ≡ Some x
GivesWord (Err e) read = FailsWord e read

-- opens one step after another
unfoldable pub bind_opens : Unit {0}
unfolding ◌>>=◌
bind_opens = tt
