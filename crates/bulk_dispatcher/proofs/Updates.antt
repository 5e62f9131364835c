-- A call on one lane, and what holds of all lanes of a hand.
use Rattle.std.proofs.Common.{◌≡◌, ◌+◌, ◌≢◌, ℕ, zero, suc, ◌<◌, ◌==◌, true, false, Option, Some, None, List, [], ◌∷◌, ◌++◌, length, filter, get_or, set, refl, sym, ap, ◌∙◌, arith, ne_eqb, eq-eqb}
use Rattle.std.specs.List.{filter_map, cons_option, AllZip, AllByRecursion}
use Rattle.std.proofs.lemmas.List.{append-nil}
use Rattle.std.proofs.lemmas.List.Elements.{filter-append, filter_map-append}
use Rattle.bq_model.specs.declared.op.Answer.{Answer}
use Rattle.bq_model.specs.declared.op.Op.{Op}
use Rattle.bq_model.specs.declared.group.Group.{Group}
use Rattle.bq_model.specs.History.{operations}
use Rattle.bq_model.specs.Own.{mine}
use Rattle.job_text.specs.declared.file.Unit.{Unit as JobUnit}
use Rattle.job_text.specs.JobFile.{job_at}
use Rattle.bulk_dispatcher.specs.declared.reply.Reply.{Reply}
use Rattle.bq_model.specs.Grows.{Grew}
use Rattle.bulk_dispatcher.specs.Hands.{Catch, caught, caught_from, new_replies, reply_for, replies_on}
use Rattle.bulk_dispatcher.proofs.Steps.{caught-grew, caught_from-append}
use Rattle.bulk_dispatcher.specs.Books.{Climbs}
use Rattle.bulk_dispatcher.proofs.Zips.{zip_at}
use Rattle.job_work.specs.declared.job.Job.{Job}

-- What holds at one number holds after a change there, and what holds at the others is carried over.
pub zip_update : {A B : Type 0} (R Q : A → B → Type 0) (xs : List A) (ys : List B) (k : ℕ) (d : A) (y : B) → k < length xs
    → ((j : ℕ) (z : B) → j < length xs → j ≢ k → R (get_or xs j d) z → Q (get_or xs j d) z) → Q (get_or xs k d) y → AllZip R xs ys → AllZip Q xs (set ys k y)
zip_update R Q [] ys k d y l other here h = absurd (omega (arith, l))
zip_update R Q (x ∷ xs) [] k d y l other here h = absurd h
zip_update R Q (x ∷ xs) (z ∷ zs) zero d y l other here h = (here, zip_rest R Q xs zs d (λ j w m r. other (suc j) w (omega (arith, m)) (λ e. absurd (omega (arith, e))) r) h.1)
  where
    zip_rest : {A B : Type 0} (R Q : A → B → Type 0) (xs : List A) (ys : List B) (d : A) → ((j : ℕ) (z : B) → j < length xs → R (get_or xs j d) z → Q (get_or xs j d) z) → AllZip R xs ys → AllZip Q xs ys
    zip_rest R Q [] [] d f h = tt
    zip_rest R Q [] (y ∷ ys) d f h = absurd h
    zip_rest R Q (x ∷ xs) [] d f h = absurd h
    zip_rest R Q (x ∷ xs) (y ∷ ys) d f h = (f 0 y (omega arith) h.0, zip_rest R Q xs ys d (λ j z m r. f (suc j) z (omega (arith, m)) r) h.1)
zip_update R Q (x ∷ xs) (z ∷ zs) (suc k) d y l other here h = (
  other 0 z (omega arith) (λ e. absurd (omega (arith, e))) h.0,
  zip_update R Q xs zs k d y (omega (arith, l)) (λ j w m n r. other (suc j) w (omega (arith, m)) (λ e. n (omega (arith, e))) r) here h.1,
)

-- no two places of such a list have one number
above_at : (x : ℕ) (xs : List ℕ) (j d : ℕ) → AllByRecursion (λ y. x < y) xs → j < length xs → x < get_or xs j d
above_at x [] j d h l = absurd (omega (arith, l))
above_at x (y ∷ xs) zero d h l = h.0
above_at x (y ∷ xs) (suc j) d h l = above_at x xs j d h.1 (omega (arith, l))

pub differ : (xs : List ℕ) (j k d : ℕ) → Climbs xs → j < length xs → k < length xs → j ≢ k → get_or xs k d ≢ get_or xs j d
differ [] j k d h l m n = λ e. absurd (omega (arith, l))
differ (x ∷ xs) zero zero d h l m n = λ e. absurd (n refl)
differ (x ∷ xs) zero (suc k) d h l m n = λ e. absurd (let up = above_at x xs k d h.0 (omega (arith, m)) in omega (arith, up, e))
differ (x ∷ xs) (suc j) zero d h l m n = λ e. absurd (let up = above_at x xs j d h.0 (omega (arith, l)) in omega (arith, up, e))
differ (x ∷ xs) (suc j) (suc k) d h l m n = differ xs j k d h.1 (omega (arith, l)) (omega (arith, m)) (λ e. n (omega (arith, e)))

pub of_lane : (lane : ℕ) (replies : List Reply) → AllByRecursion (λ (r : Reply). r.lane ≡ lane) replies → filter (λ (r : Reply). r.lane == lane) replies ≡ replies
of_lane lane [] h = refl
of_lane lane (r ∷ rs) h = let e : (r.lane == lane) ≡ true = eq-eqb r.lane lane h.0 in rw e (ap (λ xs. r ∷ xs) (of_lane lane rs h.1))

pub of_other : (lane other : ℕ) (replies : List Reply) → lane ≢ other → AllByRecursion (λ (r : Reply). r.lane ≡ lane) replies → filter (λ (r : Reply). r.lane == other) replies ≡ []
of_other lane other [] n h = refl
of_other lane other (r ∷ rs) n h = let e : (r.lane == other) ≡ false = ne_eqb r.lane other (λ same. n (sym h.0 ∙ same)) in rw e (of_other lane other rs n h.1)

one_on_lane : (lane c : ℕ) (x : Catch) (found : Option (ℕ × Job)) (rest : List Reply) → AllByRecursion (λ (r : Reply). r.lane ≡ lane) rest → AllByRecursion (λ (r : Reply). r.lane ≡ lane) (cons_option (reply_for lane c x found) rest)
one_on_lane lane c x None rest h = h
one_on_lane lane c x (Some found) rest h = (refl, h)

pub all_on_lane : (file : List JobUnit) (lane c : ℕ) (catches : List Catch) → AllByRecursion (λ (r : Reply). r.lane ≡ lane) (filter_map (λ x. reply_for lane c x (job_at file x.value)) catches)
all_on_lane file lane c [] = tt
all_on_lane file lane c (x ∷ xs) = one_on_lane lane c x (job_at file x.value) (filter_map (λ y. reply_for lane c y (job_at file y.value)) xs) (all_on_lane file lane c xs)

-- A call on lane k, whose catches are replied to, keeps that what is caught is replied to.
pub replied-grew : (file : List JobUnit) (lanes : List ℕ) (seen : List (List Group)) (c k : ℕ) (replies : List Reply) (ops : List Op) (answers : List Answer) (new : List Group) → Climbs lanes → k < length lanes
    → Grew c ops answers (get_or seen k []) new → AllZip (λ lane h. filter (λ (r : Reply). r.lane == lane) replies ≡ replies_on file lane c h) lanes seen
    → AllZip (λ lane h. filter (λ (r : Reply). r.lane == lane) (replies ++ new_replies file (get_or lanes k 0) c (length (operations (mine (get_or seen k []) c))) answers) ≡ replies_on file lane c h) lanes (set seen k new)
replied-grew file lanes seen c k replies ops answers new climb l g h =
    let lane = get_or lanes k 0 in
    let old = get_or seen k [] in
    let more = new_replies file lane c (length (operations (mine old c))) answers in
    let on_lane = all_on_lane file lane c (caught_from (length (operations (mine old c))) answers) in
    zip_update (λ n x. filter (λ (r : Reply). r.lane == n) replies ≡ replies_on file n c x) (λ n x. filter (λ (r : Reply). r.lane == n) (replies ++ more) ≡ replies_on file n c x) lanes seen k 0 new l
    (λ j x m n e.
    filter-append (λ (r : Reply). r.lane == get_or lanes j 0) replies more
    ∙ ap (λ rs. filter (λ (r : Reply). r.lane == get_or lanes j 0) replies ++ rs) (of_other lane (get_or lanes j 0) more (differ lanes j k 0 climb m l n) on_lane)
    ∙ append-nil (filter (λ (r : Reply). r.lane == get_or lanes j 0) replies) ∙ e)
    (filter-append (λ (r : Reply). r.lane == lane) replies more
    ∙ ap (λ rs. filter (λ (r : Reply). r.lane == lane) replies ++ rs) (of_lane lane more on_lane)
    ∙ ap (λ rs. rs ++ more) (zip_at (λ n x. filter (λ (r : Reply). r.lane == n) replies ≡ replies_on file n c x) lanes seen k 0 [] h l)
    ∙ sym (filter_map-append (λ (x : Catch). reply_for lane c x (job_at file x.value)) (caught old c) (caught_from (length (operations (mine old c))) answers))
    ∙ ap (filter_map (λ (x : Catch). reply_for lane c x (job_at file x.value))) (sym (caught-grew c ops answers old new g)))
    h

-- one answer more of the same call
pub new_replies-push : (file : List JobUnit) (lane c made : ℕ) (answers : List Answer) (answer : Answer)
    → new_replies file lane c made (answers ++ answer ∷ []) ≡ new_replies file lane c made answers ++ new_replies file lane c (made + length answers) (answer ∷ [])
new_replies-push file lane c made answers answer =
    ap (filter_map (λ (x : Catch). reply_for lane c x (job_at file x.value))) (caught_from-append made answers (answer ∷ []))
    ∙ filter_map-append (λ (x : Catch). reply_for lane c x (job_at file x.value)) (caught_from made answers) (caught_from (made + length answers) (answer ∷ []))
