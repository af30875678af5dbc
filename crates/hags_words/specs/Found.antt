-- What a parse of clap found, and what is given.
use Rattle.std.specs.Prelude.{◌≡◌, codes}
use Rattle.clap.specs.Matches.{first_value}
use Rattle.clap.specs.declared.parser.matches.Found.{Found}
use Rattle.hags_words.specs.Options.{Values, value_of, operand, kinds, node, inc, turns, key, silence, mend, gap}

-- the values that were found are those that are given
pub record HasValues (f : Found) (values : Values) : Type 0 where
  pub operand_is : first_value f (codes "operand") ≡ value_of operand values
  pub kinds_is : first_value f (codes "kinds") ≡ value_of kinds values
  pub node_is : first_value f (codes "node") ≡ value_of node values
  pub inc_is : first_value f (codes "inc") ≡ value_of inc values
  pub turns_is : first_value f (codes "turns") ≡ value_of turns values
  pub key_is : first_value f (codes "key") ≡ value_of key values
  pub silence_is : first_value f (codes "silence") ≡ value_of silence values
  pub mend_is : first_value f (codes "mend") ≡ value_of mend values
  pub gap_is : first_value f (codes "gap") ≡ value_of gap values
