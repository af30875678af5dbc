-- What a parse of clap answers, in the words of the grammar.
use Rattle.std.proofs.Common.{◌≡◌, ◌≢◌, ℕ, false, true, List, [], codes, Option, Some, None, IsSome, IfSome, sym, ◌∙◌, subst, ap}
use Rattle.std.specs.Option.{option_map}
use Rattle.clap.specs.Simple.{matches_of}
use Rattle.clap.specs.Walk.{rows_of}
use Rattle.clap.specs.Faults.{fault_of}
use Rattle.clap.specs.Matches.{first_value}
use Rattle.clap.specs.declared.parser.matches.Found.{Found}
use Rattle.hags_words.specs.declared.options.Options.{Options}
use Rattle.hags_words.specs.App.{options_app}
use Rattle.hags_words.specs.Options.{Values, given_of, has_short}
use Rattle.hags_words.specs.Found.{HasValues}
use Rattle.hags_words.specs.Texts.{Texts, seen, texts_in, text_of}
use Rattle.hags_words.proofs.ClapLaws.{pending_where_ok, none_where_err, values_found}
use Rattle.hags_words.proofs.GivenLaws.{pending_is_given, none_of_short}

pub given_where_ok : (words : List (List ℕ)) → has_short words ≡ false → fault_of options_app words ≡ [] → IsSome (given_of words)
given_where_ok words free e = subst (λ (r : Option Values). IsSome r) (pending_is_given words free) (pending_where_ok words free e)

pub not_given_where_err : (words : List (List ℕ)) → has_short words ≡ false → fault_of options_app words ≢ [] → given_of words ≡ None
not_given_where_err words free e = sym (pending_is_given words free) ∙ none_where_err words free e

pub given_values : (words : List (List ℕ)) (f : Found) → has_short words ≡ false → rows_of f ≡ matches_of options_app words → IfSome (given_of words) (HasValues f)
given_values words f free e = subst (λ (r : Option Values). IfSome r (HasValues f)) (pending_is_given words free) (values_found words f free e)

abbrev texts : Option (List ℕ) → Option (List ℕ) → Option (List ℕ) → Option (List ℕ) → Option (List ℕ) → Option (List ℕ) → Option (List ℕ) → Option (List ℕ) → Option (List ℕ) → Texts
texts a b c d e f g h i = record { of_operand = a; of_kinds = b; of_node = c; of_inc = d; of_turns = e; of_key = f; of_silence = g; of_mend = h; of_gap = i }

same_texts : (x y : Texts) → x.of_operand ≡ y.of_operand → x.of_kinds ≡ y.of_kinds → x.of_node ≡ y.of_node → x.of_inc ≡ y.of_inc → x.of_turns ≡ y.of_turns → x.of_key ≡ y.of_key → x.of_silence ≡ y.of_silence → x.of_mend ≡ y.of_mend → x.of_gap ≡ y.of_gap → x ≡ y
same_texts x y p q r s t u v w z =
    ap (λ a. texts a x.of_kinds x.of_node x.of_inc x.of_turns x.of_key x.of_silence x.of_mend x.of_gap) p
    ∙ (ap (λ a. texts y.of_operand a x.of_node x.of_inc x.of_turns x.of_key x.of_silence x.of_mend x.of_gap) q
    ∙ (ap (λ a. texts y.of_operand y.of_kinds a x.of_inc x.of_turns x.of_key x.of_silence x.of_mend x.of_gap) r
    ∙ (ap (λ a. texts y.of_operand y.of_kinds y.of_node a x.of_turns x.of_key x.of_silence x.of_mend x.of_gap) s
    ∙ (ap (λ a. texts y.of_operand y.of_kinds y.of_node y.of_inc a x.of_key x.of_silence x.of_mend x.of_gap) t
    ∙ (ap (λ a. texts y.of_operand y.of_kinds y.of_node y.of_inc y.of_turns a x.of_silence x.of_mend x.of_gap) u
    ∙ (ap (λ a. texts y.of_operand y.of_kinds y.of_node y.of_inc y.of_turns y.of_key a x.of_mend x.of_gap) v
    ∙ (ap (λ a. texts y.of_operand y.of_kinds y.of_node y.of_inc y.of_turns y.of_key y.of_silence a x.of_gap) w
    ∙ (ap (λ a. texts y.of_operand y.of_kinds y.of_node y.of_inc y.of_turns y.of_key y.of_silence y.of_mend a) z))))))))

-- the texts are those that a parse found
pub record AreFound (o : Options) (f : Found) : Type 0 where
  pub operand : text_of o.operand ≡ first_value f (codes "operand")
  pub kinds : text_of o.kinds ≡ first_value f (codes "kinds")
  pub node : text_of o.node ≡ first_value f (codes "node")
  pub inc : text_of o.inc ≡ first_value f (codes "inc")
  pub turns : text_of o.turns ≡ first_value f (codes "turns")
  pub key : text_of o.key ≡ first_value f (codes "key")
  pub silence : text_of o.silence ≡ first_value f (codes "silence")
  pub mend : text_of o.mend ≡ first_value f (codes "mend")
  pub gap : text_of o.gap ≡ first_value f (codes "gap")

texts_by : (r : Option Values) (o : Options) (f : Found) → IsSome r → IfSome r (HasValues f) → AreFound o f → Some (seen o) ≡ option_map texts_in r
texts_by None o f some h t = absurd cc
texts_by (Some values) o f some h t =
    ap (λ x. Some x) (same_texts (seen o) (texts_in values) (t.operand ∙ h.operand_is) (t.kinds ∙ h.kinds_is) (t.node ∙ h.node_is) (t.inc ∙ h.inc_is) (t.turns ∙ h.turns_is) (t.key ∙ h.key_is) (t.silence ∙ h.silence_is) (t.mend ∙ h.mend_is) (t.gap ∙ h.gap_is))

pub texts_of_ok : (words : List (List ℕ)) (o : Options) (f : Found) → IsSome (given_of words) → IfSome (given_of words) (HasValues f) → AreFound o f
    → option_map seen (Some o) ≡ option_map texts_in (given_of words)
texts_of_ok words o f some h t = texts_by (given_of words) o f some h t

pub no_texts : (words : List (List ℕ)) → given_of words ≡ None → option_map seen None ≡ option_map texts_in (given_of words)
no_texts words e = ap (λ r. option_map texts_in r) (sym e)

pub no_texts_of_short : (words : List (List ℕ)) → has_short words ≡ true → option_map seen None ≡ option_map texts_in (given_of words)
no_texts_of_short words h = no_texts words (none_of_short words h)
