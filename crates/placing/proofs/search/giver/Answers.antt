-- The search over both tables finds the first rule that gives the cell.
use Rattle.std.proofs.Common.{◌≡◌, true, false, ap, ◌∙◌, rules, tests}
use Rattle.std.proofs.lemmas.Iterator.{YieldsList-from_slice, YieldsList-from_zip, IsFirst-from_position}
use Rattle.placing.specs.Search.{one_of}
use Rattle.placing.proofs.Givers.{gives_cell, giver_is_first}
use Rattle.placing.proofs.search.giver.Goals as goal

pub returns : goal.returns
returns c =
    let R = c.args.rules.now in
    let S = c.args.states.now in
    ap one_of (search rules) ∙ giver_is_first R S c.args.cell c.position.result c.told-rules c.told-states (IsFirst-from_position c.position.new.self _ c.position.result (λ p. gives_cell c.args.cell p ≡ true) (λ p. gives_cell c.args.cell p ≡ false) c.position.ensures.ran (YieldsList-from_zip (YieldsList-from_slice R cc) (YieldsList-from_slice S cc)) (λ x q k. search (rules, tests)) (λ x q k. search (rules, tests)))
