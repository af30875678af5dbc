-- What the words after a command give, by name.
use Rattle.std.specs.Prelude.{ℕ, List, Option, option_map, map, string_bytes, String}
use Rattle.std.specs.Global.{Global}
use Rattle.std.specs.Borrow.{Bor}
use Rattle.hags_words.specs.declared.options.Options.{Options}
use Rattle.hags_words.specs.Options.{Values, value_of, operand, kinds, node, inc, turns, key, silence, mend, gap, given_of}

pub record Texts : Type 0 where
  pub of_operand : Option (List ℕ)
  pub of_kinds : Option (List ℕ)
  pub of_node : Option (List ℕ)
  pub of_inc : Option (List ℕ)
  pub of_turns : Option (List ℕ)
  pub of_key : Option (List ℕ)
  pub of_silence : Option (List ℕ)
  pub of_mend : Option (List ℕ)
  pub of_gap : Option (List ℕ)

abbrev pub texts_in : Values → Texts
texts_in values = record {
  of_operand = value_of operand values;
  of_kinds = value_of kinds values;
  of_node = value_of node values;
  of_inc = value_of inc values;
  of_turns = value_of turns values;
  of_key = value_of key values;
  of_silence = value_of silence values;
  of_mend = value_of mend values;
  of_gap = value_of gap values;
}

abbrev pub text_of : Option (Bor (List ℕ)) → Option (List ℕ)
text_of text = option_map (λ t. t.now) text

-- the texts that options hold
abbrev pub seen : Options → Texts
seen o = record {
  of_operand = text_of o.operand;
  of_kinds = text_of o.kinds;
  of_node = text_of o.node;
  of_inc = text_of o.inc;
  of_turns = text_of o.turns;
  of_key = text_of o.key;
  of_silence = text_of o.silence;
  of_mend = text_of o.mend;
  of_gap = text_of o.gap;
}

-- what the words give
abbrev pub given_by : List (String Global) → Option Values
given_by words = given_of (map string_bytes words)
