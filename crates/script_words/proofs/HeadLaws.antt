-- The table of first words, in four.
use Rattle.std.proofs.Common.{◌≡◌, ℕ, ◌++◌, Bool, true, false, List, [], ◌∷◌, Option, Some, None, refl, sym, ◌∙◌, ap}
use Rattle.std.specs.Str.{bytes_eq}
use Rattle.value_words.specs.Words.{Choice, chosen}
use Rattle.world_model.specs.Lines.{Form, forms}
use Rattle.script_words.specs.Heads.{frequent_forms, node_forms, group_forms, setting_forms}

found_head : {X : Type 0} (t : Bool) (m x : X) (p q : Option X) → (p ≡ Some x → q ≡ Some x) → ◌≡◌ {A = Option X} (elim t [ true ↦ Some m | false ↦ p ]) (Some x) → ◌≡◌ {A = Option X} (elim t [ true ↦ Some m | false ↦ q ]) (Some x)
found_head true m x p q go e = e
found_head false m x p q go e = go e

chosen_front : {X : Type 0} (x : X) (es fs : List (Choice X)) (w : List ℕ) → chosen es w ≡ Some x → chosen (es ++ fs) w ≡ Some x
unfolding chosen
chosen_front x [] fs w e = absurd cc
chosen_front x (e ∷ es) fs w h = found_head (bytes_eq e.word w) e.means x (chosen es w) (chosen (es ++ fs) w) (chosen_front x es fs w) h

missed_head : {X : Type 0} (t : Bool) (m : X) (p q r : Option X) → (p ≡ None → q ≡ r) → ◌≡◌ {A = Option X} (elim t [ true ↦ Some m | false ↦ p ]) None → ◌≡◌ {A = Option X} (elim t [ true ↦ Some m | false ↦ q ]) r
missed_head true m p q r go e = absurd cc
missed_head false m p q r go e = go e

chosen_behind : {X : Type 0} (es fs : List (Choice X)) (w : List ℕ) → chosen es w ≡ None → chosen (es ++ fs) w ≡ chosen fs w
unfolding chosen
chosen_behind [] fs w e = refl
chosen_behind (e ∷ es) fs w h = missed_head (bytes_eq e.word w) e.means (chosen es w) (chosen (es ++ fs) w) (chosen fs w) (chosen_behind es fs w) h

in_four : (w : List ℕ) → chosen forms w ≡ chosen (frequent_forms ++ (node_forms ++ (group_forms ++ setting_forms))) w
unfolding forms
in_four w = refl

pub in_frequent : (w : List ℕ) (x : Form) → chosen frequent_forms w ≡ Some x → chosen forms w ≡ Some x
in_frequent w x e = in_four w ∙ chosen_front x frequent_forms (node_forms ++ (group_forms ++ setting_forms)) w e

behind_frequent : (w : List ℕ) → chosen frequent_forms w ≡ None → chosen forms w ≡ chosen (node_forms ++ (group_forms ++ setting_forms)) w
behind_frequent w e = in_four w ∙ chosen_behind frequent_forms (node_forms ++ (group_forms ++ setting_forms)) w e

pub in_node : (w : List ℕ) (x : Form) → chosen frequent_forms w ≡ None → chosen node_forms w ≡ Some x → chosen forms w ≡ Some x
in_node w x e f = behind_frequent w e ∙ chosen_front x node_forms (group_forms ++ setting_forms) w f

behind_node : (w : List ℕ) → chosen frequent_forms w ≡ None → chosen node_forms w ≡ None → chosen forms w ≡ chosen (group_forms ++ setting_forms) w
behind_node w e f = behind_frequent w e ∙ chosen_behind node_forms (group_forms ++ setting_forms) w f

pub in_group : (w : List ℕ) (x : Form) → chosen frequent_forms w ≡ None → chosen node_forms w ≡ None → chosen group_forms w ≡ Some x → chosen forms w ≡ Some x
in_group w x e f g = behind_node w e f ∙ chosen_front x group_forms setting_forms w g

pub in_setting : (w : List ℕ) → chosen frequent_forms w ≡ None → chosen node_forms w ≡ None → chosen group_forms w ≡ None → chosen forms w ≡ chosen setting_forms w
in_setting w e f g = behind_node w e f ∙ chosen_behind group_forms setting_forms w g
