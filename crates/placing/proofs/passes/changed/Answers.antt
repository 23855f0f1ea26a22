-- The rules' numbers run beside both tables.
use Rattle.std.proofs.Common.{refl, ◌∙◌, arith, rules, tests}
use Rattle.std.specs.List.{range_with_len, zip}
use Rattle.std.proofs.lemmas.Iterator.{YieldsList-from_range, YieldsList-from_slice, YieldsList-from_zip}
use Rattle.std.proofs.lemmas.Iterator.Consumers.{YieldsList-at, YieldsList-from_filter, count_from_yields_List}
use Rattle.std.proofs.lemmas.List.Sums.{length-filter}
use Rattle.placing.proofs.Steps.{is_changed, changed_counted}
use Rattle.placing.proofs.passes.changed.Goals as goal

pub returns : goal.returns
returns c =
    let before = c.args.before.now in
    let after = c.args.after.now in
    let test = is_changed c.args.r in
    count_from_yields_List c.filter.result c.count.result c.count.ensures.ran (YieldsList-from_filter _ test (YieldsList-at c.filter.ensures.source (YieldsList-from_zip (YieldsList-from_range 0 64 64 c.zip-2.ensures.first refl) (YieldsList-at c.zip-2.ensures.second (YieldsList-from_zip (YieldsList-from_slice before cc) (YieldsList-from_slice after cc))))) c.filter.ensures.closure (λ x b q k. search (rules, tests)))
    ∙ length-filter test (zip (range_with_len 0 64) (zip before after)) ∙ changed_counted c.args.r 0 64 before after (omega (arith, c.told-before))
