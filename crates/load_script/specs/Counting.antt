-- What is counted of the records of a run, and the summary that the counts make.
use Rattle.std.specs.Prelude.{ℕ, Bool, true, false, ◌+◌, ◌++◌, List, fold, codes, decimal}
use Rattle.node_state.specs.declared.happened.Happened.{Happened}
use Rattle.world_model.specs.Load.{is_in, is_put, is_heard, is_told}
use Rattle.load_script.specs.declared.counts.Counts.{Counts}

abbrev pub one_if : Bool → ℕ
one_if true = 1
one_if false = 0

abbrev pub no_counts : Counts
no_counts = record { views = 0; puts = 0; heard = 0; told = 0 }

-- a record more
abbrev pub counts_with : Counts → Happened → Counts
counts_with c r = record {
  views = c.views + one_if (is_in r);
  puts = c.puts + one_if (is_put r);
  heard = c.heard + one_if (is_heard r);
  told = c.told + one_if (is_told r);
}

-- these records more
abbrev pub counted : Counts → List Happened → Counts
counted c rs = fold counts_with c rs

abbrev pub count_line : ℕ → List ℕ
count_line n = decimal n ++ codes "\n"

abbrev pub summary_text : ℕ → Counts → List ℕ
summary_text n c = codes "load " ++ decimal n ++ codes "\nviews " ++ count_line c.views ++ codes "puts " ++ count_line c.puts ++ codes "heard " ++ count_line c.heard ++ codes "told " ++ count_line c.told
