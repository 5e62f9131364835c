-- The words of an empty lane, and its one seat, show the opening state.
use Rattle.std.proofs.Common.{◌≡◌, ℕ, zero, suc, List, [], ◌∷◌, length, sym, refl, ap, ◌∙◌, subst, inl}
use mathlib.Core.Option.{some, some-injective, some-ne-none}
use lib.ListN.{get_elem?}
use Rattle.atomic_table.specs.Table.{opening}
use Rattle.bq_model.specs.declared.shape.Shape.{Shape}
use Rattle.word_rows.specs.declared.location.Location.{Location}
use Rattle.word_rows.specs.Sizes.{words_of}
use Rattle.word_rows.specs.Layout.{IsValid}
use Rattle.word_rows.specs.Contents.{coded}
use Rattle.word_rows.specs.Memory.{word_at}
use Rattle.word_rows.specs.Opening.{opening_of}
use Rattle.lane_steps.specs.LaneSizes.{lane_sizes}
use Rattle.lane_steps.specs.Start as begin
use Rattle.lane_room.proofs.Roomy.{roomy_opens}
use Rattle.core_model.proofs.Tables.{opens_as_its_table}
use Rattle.lane_rule.specs.declared.view.View.{View}
use Rattle.lane_rule.specs.Rule.{opened, Sits, Ruled, RanksOf}
use Rattle.lane_rank.proofs.Ranked.{ranked_opens}

pub opens_ruled : (key : Shape) (words : List ℕ) → length words ≡ words_of key → ((l : Location) → IsValid key l → word_at key words l ≡ coded (opening_of key l)) → Ruled key (opening words [] (opened key))
opens_ruled key words long each = record {
  core = begin.opening (lane_sizes key);
  outer = λ _. 0;
  inner = λ _. 0;
  ranked = ranked_opens key;
  roomy = roomy_opens key;
  seat = λ _. 0;
  shows = record { long = long; each = λ l ok. each l ok ∙ ap coded (sym (opens_as_its_table key l)) };
  each_seat = seated;
  each_rank = ranks;
  longest = (0, opened key, refl, inl refl);
} where
  ranks : (j : ℕ) (u : View) → get_elem? (opened key ∷ []) j ≡ some u → RanksOf (λ _. 0) (λ _. 0) u.kind u
  ranks zero u e = subst (λ (v : View). RanksOf (λ _. 0) (λ _. 0) v.kind v) (some-injective (opened key) u e) tt
  ranks (suc j) u e = absurd (some-ne-none u (sym e))

  seated : (j : ℕ) (u : View) → get_elem? (opened key ∷ []) j ≡ some u → Sits key (begin.opening (lane_sizes key)) (λ _. 0) j u
  seated zero u e = subst (Sits key (begin.opening (lane_sizes key)) (λ _. 0) 0) (some-injective (opened key) u e) (refl, refl, λ c _. (refl, refl))
  seated (suc j) u e = absurd (some-ne-none u (sym e))
