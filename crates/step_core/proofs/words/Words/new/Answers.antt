use Rattle.std.proofs.Common.{rules, ℕ, List, get_or, replicate, ap, ◌∙◌, None, Option}
use Rattle.word_rows.specs.declared.link_word.LinkWord.{LinkWord}
use Rattle.word_rows.specs.declared.link_word.LinkWord.TheVariants.{Nil}
use Rattle.word_rows.specs.declared.head_word.HeadWord.TheVariants.{Node}
use Rattle.word_rows.specs.declared.place.Place.{Place}
use Rattle.lane_steps.specs.declared.point.Notice.{Notice}
use Rattle.lane_steps.specs.Notices.{place, blank}
use Rattle.step_core.proofs.Fields.{all_same}
use Rattle.step_core.proofs.words.Words.new.Goals as goal

pub returns-clause-opening : goal.returns-clause-opening
returns-clause-opening c = let links = c.in_ok-vec.ensures.items_if_clones_equal (λ y e. e) in let values = c.in_ok-vec-2.ensures.items_if_clones_equal (λ y e. e) in
    let old_tails = c.in_ok-vec-3.ensures.items_if_clones_equal (search rules) in let notices = c.in_ok-vec-4.ensures.items_if_clones_equal (λ y e. e) in let hazards = c.in_ok-vec-5.ensures.items_if_clones_equal (search rules) in let node_hazards = c.in_ok-vec-6.ensures.items_if_clones_equal (search rules) in λ i. record {
      head = Node (place 0 c.args.first);
      tail = place 0 c.args.first;
      link = λ r. (ap (λ (xs : List LinkWord). get_or xs r Nil) links ∙ all_same c.args.rows r Nil) i;
      value = λ r. (ap (λ (xs : List ℕ). get_or xs r 0) values ∙ all_same c.args.rows r 0) i;
      old_tail = λ a. (ap (λ (xs : List (Option Place)). get_or xs a None) old_tails ∙ all_same c.args.anns a None) i;
      notice = λ a. (ap (λ (xs : List Notice). get_or xs a blank) notices ∙ (ap (λ (n : Notice). get_or (replicate c.args.anns n) a blank) c.blank.ensures ∙ all_same c.args.anns a blank)) i;
      ann_hazard = λ a. (ap (λ (xs : List (Option ℕ)). get_or xs a None) hazards ∙ all_same c.args.callers a None) i;
      mark = c.in_ok-first_marks.ensures.opening i;
      node_hazard = λ a. (ap (λ (xs : List (Option ℕ)). get_or xs a None) node_hazards ∙ all_same c.args.callers a None) i;
    }
