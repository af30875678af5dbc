-- Laws of each record, one with another.
use Rattle.std.proofs.Common.{List, [], ◌∷◌}
use Rattle.node_state.specs.declared.happened.Happened.{Happened}
use Rattle.run_safety.specs.Past.{History, Within, EachRecord}

-- two laws of each record together
module _ {P Q R : List Happened → History → Happened → Type 0} (both : (now : List Happened) (before : History) (r : Happened) → P now before r → Q now before r → R now before r) where
  within_both : (now : List Happened) (before : History) → Within P now before → Within Q now before → Within R now before
  within_both [] before a b = tt
  within_both (r ∷ now) before a b = (both now before r a.0 b.0, within_both now before a.1 b.1)

  pub each_both : (h : History) → EachRecord P h → EachRecord Q h → EachRecord R h
  each_both [] a b = tt
  each_both (e ∷ before) a b = (within_both e.records before a.0 b.0, each_both before a.1 b.1)

abbrev pub Two : (List Happened → History → Happened → Type 0) → (List Happened → History → Happened → Type 0) → List Happened → History → Happened → Type 0
Two P Q now before r = P now before r × Q now before r
