use Rattle.std.proofs.Common.{◌≡◌, IsTrue, drop}
use Rattle.proposal_core.specs.Fold.{joiners_fit}
use Rattle.view_state.specs.Cut.{all_fit}
use Rattle.view_bases.specs.Fitting.{list_with}
use Rattle.view_bases.proofs.cut.ListEnd.pass_all.Given as goal

abbrev pub invariant-loop-e : goal.invariant-loop-e
invariant-loop-e l = record {
  rest : all_fit l.view (list_with l.initial.self) l.entries ≡ all_fit l.view (list_with l.self) (drop l.e-index l.entries);
  joiners : IsTrue (joiners_fit l.self.state);
}
