-- What rounds come to, one after another.
use Rattle.std.proofs.Common.{◌≡◌, ℕ, ◌+◌, ◌-◌, Bool, true, false, List, [], ◌∷◌, ◌++◌, ◌<◌, ◌≤◌, replicate, length, Some, None, Option, MatchOption, is_some, refl, sym, ap, subst, ◌∙◌, arith, append_assoc}
use Rattle.std.specs.List.{filter_map, cons_option, AllZip, range_with_len}
use Rattle.std.proofs.lemmas.List.{append-nil, length-replicate}
use Rattle.std.proofs.lemmas.List.Elements.{filter_map-append}
use Rattle.bq_model.specs.declared.op.Op.{Op}
use Rattle.bq_model.specs.declared.op.Op.TheVariants.{Deq}
use Rattle.bq_model.specs.declared.op.Answer.{Answer}
use Rattle.bq_model.specs.declared.op.Answer.TheVariants.{Done, Got, Empty, Refused}
use Rattle.bq_model.specs.declared.group.Group.{Group}
use Rattle.bq_model.specs.Values.{enqueued}
use Rattle.bq_model.specs.Grows.{Grew, SawMore}
use Rattle.bq_session.specs.declared.claim.Outcome.{Outcome}
use Rattle.bq_session.specs.declared.ticket.Ticket.{Ticket}
use Rattle.bq_session.specs.declared.future.Standing.TheVariants.{Kept, Withdrawn}
use Rattle.bq_session.specs.Outcome.{outcome_of}
use Rattle.bq_session.specs.Session.{SessionState}
use Rattle.bq_session.specs.Outcome.{made_by}
use Rattle.bq_session.specs.Futures.{Stands, live_count, spent}
use Rattle.hand_tickets.specs.Holds.{Holds, HoldsPending, all_kept, some_withdrawn}
use Rattle.hand_tickets.proofs.Holding.{held-spent, held-same}
use Rattle.job_lanes.specs.Rest.{IsAtRest}
use Rattle.job_text.specs.declared.file.Unit.{Unit as JobUnit}
use Rattle.job_text.specs.JobFile.{job_at, job_count}
use Rattle.job_text.proofs.JobFileLemmas.{job_at-past}
use Rattle.bq_session.specs.declared.claim.Claim.{Claim}
use Rattle.bq_session.specs.declared.claim.Outcome.TheVariants as outcome
use Rattle.bulk_dispatcher.specs.declared.reply.Reply.{Reply}
use Rattle.bulk_dispatcher.specs.Books.{Numbered}
use Rattle.bulk_dispatcher.specs.Hands.{Catch, caught, caught_from, reply_for, replies_on, new_replies, Answered, PutsUnit, EndsLane}
use Rattle.bulk_dispatcher.specs.Rounds.{replies_to, found_nothing, is_empty, ends_empty, RoundMade, PutsNothing}
use Rattle.bulk_dispatcher.specs.UnitOps.{unit_ops}
use Rattle.bq_model.specs.declared.shape.Shape.{Shape}
use Rattle.bq_model.specs.Rooms.{PassesAllowance}
use Rattle.bulk_dispatcher.specs.declared.round.Round.{Round}
use Rattle.bulk_dispatcher.specs.Hands.{found_nothing_by}
use Rattle.bulk_dispatcher.specs.Rounds.{RoundCame}
use Rattle.bulk_dispatcher.specs.Stops.{Serves, MetSpent}
use Rattle.bulk_dispatcher.proofs.Few.{Tries, tries-most, found_at_most, unit_short, found-saw_more, nearly_spent, made-saw_more, made-grew}
use Rattle.bulk_dispatcher.proofs.Steps.{caught-grew, caught-saw_more, HandPut-other, HandPut-unit, HandPut-saw_more, HandDid-ends, values_of_deqs}
use Rattle.bulk_dispatcher.proofs.Zips.{zip_length}
use Rattle.bq_session.proofs.Names.{length-grew}

pub rest_holds : {P : Type 0} {number c : ℕ} {s : SessionState P} → IsAtRest number c s → Holds number c [] [] [] s
rest_holds h = record { lane = h.lane; caller = h.caller; batch = h.batch; tickets = h.tickets; pending = h.nothing_pending; waiting = h.nobody_waits; live = h.none_live; each = tt; apart = tt }

pub holds_rest : {P : Type 0} {number c : ℕ} {s : SessionState P} → Holds number c [] [] [] s → IsAtRest number c s
holds_rest h = record { lane = h.lane; caller = h.caller; batch = h.batch; tickets = h.tickets; nothing_pending = h.pending; nobody_waits = h.waiting; none_live = h.live }

-- one answer
pub reply_of_answer : (file : List JobUnit) (lane c n : ℕ) (a : Answer) → replies_to file (outcome_of lane c n a) ≡ new_replies file lane c n (a ∷ [])
reply_of_answer file lane c n Done = refl
reply_of_answer file lane c n (Got v) = refl
reply_of_answer file lane c n Empty = refl
reply_of_answer file lane c n Refused = refl

pub nothing_of_answer : (lane c n : ℕ) (a : Answer) → found_nothing (outcome_of lane c n a) ≡ is_empty a
nothing_of_answer lane c n Done = refl
nothing_of_answer lane c n (Got v) = refl
nothing_of_answer lane c n Empty = refl
nothing_of_answer lane c n Refused = refl

catches_apart : (n : ℕ) (a : Answer) (answers : List Answer) → caught_from n (a ∷ answers) ≡ caught_from n (a ∷ []) ++ caught_from (n + 1) answers
catches_apart n Done answers = refl
catches_apart n (Got v) answers = refl
catches_apart n Empty answers = refl
catches_apart n Refused answers = refl

pub replies_apart : (file : List JobUnit) (lane c n : ℕ) (a : Answer) (answers : List Answer) → new_replies file lane c n (a ∷ answers) ≡ new_replies file lane c n (a ∷ []) ++ new_replies file lane c (n + 1) answers
replies_apart file lane c n a answers =
    ap (filter_map (λ (x : Catch). reply_for lane c x (job_at file x.value))) (catches_apart n a answers)
    ∙ filter_map-append (λ (x : Catch). reply_for lane c x (job_at file x.value)) (caught_from n (a ∷ [])) (caught_from (n + 1) answers)

pub ends_found : (before : Bool) (answers : List Answer) (a : Answer) → ends_empty before (a ∷ answers) ≡ true → (found : List Answer) × (a ∷ answers ≡ found ++ Empty ∷ [])
ends_found before [] Done e = absurd (cc e)
ends_found before [] (Got v) e = absurd (cc e)
ends_found before [] Empty e = ([], refl)
ends_found before [] Refused e = absurd (cc e)
ends_found before (b ∷ answers) a e = let rest = ends_found (is_empty a) answers b e in (a ∷ rest.0, ap (λ xs. a ∷ xs) rest.1)

-- PutsNothing
pub nothing_put : (c : ℕ) (h : List Group) → PutsNothing c h h
nothing_put c h = record { put = λ units p. p }

pub nothing_put-saw_more : (c : ℕ) (one two three : List Group) → PutsNothing c one two → SawMore c two three → PutsNothing c one three
nothing_put-saw_more c one two three h s = record { put = λ units p. HandPut-saw_more units c two three s (h.put units p) }

pub nothing_put-grew : (c : ℕ) (ops : List Op) (answers : List Answer) (one two three : List Group) → PutsNothing c one two → enqueued ops ≡ [] → Grew c ops answers two three → PutsNothing c one three
nothing_put-grew c ops answers one two three h none g = record { put = λ units p. HandPut-other units c ops answers two three none g (h.put units p) }

pub unit_put : (c first count : ℕ) (ops : List Op) (answers : List Answer) (one two three : List Group) → found_nothing_by three c ≤ found_nothing_by one c + 256 → PutsNothing c one two → ((unit : Numbered) → unit.numbers ≡ range_with_len first count → ops ≡ unit_ops unit.numbers) → Grew c ops answers two three → PutsUnit first count c one three
unit_put c first count ops answers one two three few h is g = record {
  few = few;
  put = λ units unit e p. HandPut-unit units unit c answers two three (subst (λ (os : List Op). Grew c os answers two three) (is unit e) g) (h.put units p);
}

pub lane_ended : (batch c : ℕ) (ops : List Op) (answers found : List Answer) (one two three : List Group) → PutsNothing c one two → ops ≡ replicate batch Deq → answers ≡ found ++ Empty ∷ [] → Grew c ops answers two three → EndsLane batch c one three
lane_ended batch c ops answers found one two three h which e g = record { did = λ units p. HandDid-ends units batch c ops answers found two three which e g (h.put units p) }

-- Answered
pub answered_none : (file : List JobUnit) (lane c : ℕ) (h : List Group) (rs : List Reply) → Answered file lane c h h rs rs
answered_none file lane c h rs = record { more = []; replied = sym (append-nil rs); caught = sym (append-nil (replies_on file lane c h)) }

pub answered-saw_more : (file : List JobUnit) (lane c : ℕ) (one two three : List Group) (before after : List Reply) → Answered file lane c one two before after → SawMore c two three → Answered file lane c one three before after
answered-saw_more file lane c one two three before after h s = record {
  more = h.more;
  replied = h.replied;
  caught = ap (filter_map (λ (x : Catch). reply_for lane c x (job_at file x.value))) (caught-saw_more c two three s) ∙ h.caught;
}

pub answered-grew : (file : List JobUnit) (lane c : ℕ) (ops : List Op) (answers : List Answer) (one two three : List Group) (before after more : List Reply) → Answered file lane c one two before after → Grew c ops answers two three
    → more ≡ after ++ new_replies file lane c (made_by two c) answers → Answered file lane c one three before more
answered-grew file lane c ops answers one two three before after more h g e = record {
  more = h.more ++ new_replies file lane c (made_by two c) answers;
  replied = e ∙ ap (λ rs. rs ++ new_replies file lane c (made_by two c) answers) h.replied ∙ append_assoc before h.more (new_replies file lane c (made_by two c) answers);
  caught = ap (filter_map (λ (x : Catch). reply_for lane c x (job_at file x.value))) (caught-grew c ops answers two three g)
      ∙ filter_map-append (λ (x : Catch). reply_for lane c x (job_at file x.value)) (caught two c) (caught_from (made_by two c) answers)
      ∙ ap (λ rs. rs ++ new_replies file lane c (made_by two c) answers) h.caught ∙ append_assoc (replies_on file lane c one) h.more (new_replies file lane c (made_by two c) answers);
}

-- What is still kept while a hand takes it, ticket by ticket.
pub record StillKept {P : Type 0} (file : List JobUnit) (number c : ℕ) (held : List Ticket) (s : SessionState P) (replies all : List Reply) (empty last : Bool) : Type 0 where
  pub at : ℕ
  pub left : List Answer
  pub holds : Holds number c [] (all_kept at left) held s
  pub so_far : replies ++ new_replies file number c at left ≡ all
  pub ends : ends_empty empty left ≡ last

-- the first of what is kept
pub record FirstKept (at : ℕ) (left : List Answer) (stands : Answer → Type 0) : Type 0 where
  pub answer : Answer
  pub others : List Answer
  pub is : left ≡ answer ∷ others
  pub kept : stands answer

pub first_kept : {P : Type 0} (number c at : ℕ) (left : List Answer) (t : Ticket) (ts : List Ticket) (s : SessionState P) → Holds number c [] (all_kept at left) (t ∷ ts) s → FirstKept at left (λ a. Stands s.futures t (Kept a at))
first_kept number c at [] t ts s h = absurd h.each
first_kept number c at (a ∷ left) t ts s h = record { answer = a; others = left; is = refl; kept = h.each.0 }

pub none_kept : {P : Type 0} (number c at : ℕ) (left : List Answer) (s : SessionState P) → Holds number c [] (all_kept at left) [] s → left ≡ []
none_kept number c at [] s h = refl
none_kept number c at (a ∷ left) s h = absurd h.each

-- a value that names no job
pub no_reply : (file : List JobUnit) (claim : Claim) (before : List Reply) → job_count file ≤ claim.value → before ≡ before ++ replies_to file (outcome.Got claim)
no_reply file claim before l =
    sym (append-nil before) ∙ ap (λ rs. before ++ rs) (sym (ap (λ found. cons_option (reply_for claim.lane claim.caller (record { serial = claim.serial; value = claim.value }) found) []) (job_at-past file claim.value l)))

-- one ticket more is answered
pub kept_next : {P : Type 0} (file : List JobUnit) (number c : ℕ) (t : Ticket) (held left : List Ticket) (old new : SessionState P) (o : Outcome) (before after all : List Reply) (empty now last : Bool) → held ≡ t ∷ left → (k : StillKept file number c held old before all empty last)
    → ((answer : Answer) (serial : ℕ) → Stands old.futures t (Kept answer serial) → o ≡ outcome_of old.futures.lane old.futures.caller serial answer)
    → ((answer : Answer) (serial : ℕ) → Stands old.futures t (Kept answer serial) → new ≡ record old { futures = spent t.key old.futures }) → live_count new.futures + 1 ≡ live_count old.futures
    → after ≡ before ++ replies_to file o → now ≡ found_nothing o → StillKept file number c left new after all now last
kept_next {P = P} file number c t held left old new o before after all empty now last e k gives spends counted replied ended =
    let h : Holds number c [] (all_kept k.at k.left) (t ∷ left) old = subst (λ (ts : List Ticket). Holds number c [] (all_kept k.at k.left) ts old) e k.holds in
    let first = first_kept number c k.at k.left t left old h in
    let own : Holds number c [] (Kept first.answer k.at ∷ all_kept (k.at + 1) first.others) (t ∷ left) old = subst (λ (xs : List Answer). Holds number c [] (all_kept k.at xs) (t ∷ left) old) first.is h in
    let came : o ≡ outcome_of number c k.at first.answer = gives first.answer k.at first.kept ∙ (λ i. outcome_of (h.lane i) (h.caller i) k.at first.answer) in
    let state = spends first.answer k.at first.kept in
    record {
      at = k.at + 1;
      left = first.others;
      holds = held-spent number c [] (Kept first.answer k.at) (all_kept (k.at + 1) first.others) t left old new own (ap (λ (s : SessionState P). s.pending) state) (ap (λ (s : SessionState P). s.futures) state) counted;
      so_far = ap (λ rs. rs ++ new_replies file number c (k.at + 1) first.others) (replied ∙ ap (λ x. before ++ replies_to file x) came ∙ ap (λ rs. before ++ rs) (reply_of_answer file number c k.at first.answer))
          ∙ append_assoc before (new_replies file number c k.at (first.answer ∷ [])) (new_replies file number c (k.at + 1) first.others)
          ∙ ap (λ rs. before ++ rs) (sym (replies_apart file number c k.at first.answer first.others)) ∙ ap (λ xs. before ++ new_replies file number c k.at xs) (sym first.is) ∙ k.so_far;
      ends = ap (λ b. ends_empty b first.others) (ended ∙ ap found_nothing came ∙ nothing_of_answer number c k.at first.answer) ∙ ap (λ xs. ends_empty empty xs) (sym first.is) ∙ k.ends;
    }

-- the first ticket of what is kept
pub kept_live : {P : Type 0} (file : List JobUnit) (number c : ℕ) (t : Ticket) (held left : List Ticket) (s : SessionState P) (before all : List Reply) (empty last : Bool) → held ≡ t ∷ left → (k : StillKept file number c held s before all empty last) → (answer : Answer) × ((serial : ℕ) × Stands s.futures t (Kept answer serial))
kept_live file number c t held left s before all empty last e k =
    let first = first_kept number c k.at k.left t left s (subst (λ (ts : List Ticket). Holds number c [] (all_kept k.at k.left) ts s) e k.holds) in
    (first.answer, (k.at, first.kept))

pub kept_done : {P : Type 0} (file : List JobUnit) (number c : ℕ) (held : List Ticket) (s : SessionState P) (before all : List Reply) (empty last : Bool) → held ≡ [] → StillKept file number c held s before all empty last → (before ≡ all) × (empty ≡ last) × Holds number c [] [] [] s
kept_done file number c held s before all empty last e k =
    let h = subst (λ (ts : List Ticket). Holds number c [] (all_kept k.at k.left) ts s) e k.holds in
    let none = none_kept number c k.at k.left s h in
    (sym (append-nil before) ∙ ap (λ xs. before ++ new_replies file number c k.at xs) (sym none) ∙ k.so_far, ap (ends_empty empty) (sym none) ∙ k.ends, subst (λ xs. Holds number c [] (all_kept k.at xs) [] s) none h)

pub holds_again : {P : Type 0} {number c : ℕ} {held : List Ticket} {s : SessionState P} (n : ℕ) → Holds number c [] (some_withdrawn 0 n) held s → Holds s.futures.lane s.futures.caller [] (some_withdrawn 0 (length held)) held s
holds_again {held = held} {s = s} n h =
    let count : n ≡ length held = sym (zip_length (Stands s.futures) held (some_withdrawn 0 n) h.each ∙ length-replicate n Withdrawn) in
    record {
      lane = refl;
      caller = refl;
      batch = h.batch;
      tickets = h.tickets;
      pending = h.pending;
      waiting = h.waiting;
      live = h.live;
      each = subst (λ (k : ℕ). AllZip (Stands s.futures) held (some_withdrawn 0 k)) count h.each;
      apart = h.apart;
    }

-- from a round's operations to those that the hand wanted
pub round_of : (file : List JobUnit) (lane c d e : ℕ) (ops wanted : List Op) (seen now : List Group) (before after : List Reply) (empty : Bool) → RoundMade file d e ops seen now before after empty → d ≡ lane → e ≡ c → ops ≡ wanted → RoundMade file lane c wanted seen now before after empty
round_of file lane c d e ops wanted seen now before after empty r p q o =
    subst (λ n. RoundMade file n c wanted seen now before after empty) p (subst (λ n. RoundMade file d n wanted seen now before after empty) q (subst (λ os. RoundMade file d e os seen now before after empty) o r))

-- a batch of dequeues puts no value
pub dequeues_none : (batch : ℕ) → enqueued (replicate batch Deq) ≡ []
dequeues_none batch = values_of_deqs batch

pub round_ends : (file : List JobUnit) (lane batch c : ℕ) (ops : List Op) (one two three : List Group) (before after : List Reply) (empty : Bool) → 0 < length ops → PutsNothing c one two → ops ≡ replicate batch Deq → empty ≡ true → RoundMade file lane c ops two three before after empty → EndsLane batch c one three
round_ends file lane batch c ops one two three before after empty some h which e r = go r.answers r.made (length-grew c ops r.answers two three r.made) (sym r.ended ∙ e)
  where
    go : (answers : List Answer) → Grew c ops answers two three → length answers ≡ length ops → ends_empty false answers ≡ true → EndsLane batch c one three
    go [] g l t = absurd (omega (arith, l, some))
    go (a ∷ answers) g l t = let last = ends_found false answers a t in lane_ended batch c ops (a ∷ answers) last.0 one two three h which last.1 g

pub pending_as : {P : Type 0} {n c : ℕ} {ops : List Op} {held : List Ticket} {s : SessionState P} (m d : ℕ) (more : List Op) → HoldsPending n c ops held s → n ≡ m → c ≡ d → ops ≡ more → HoldsPending m d more held s
pending_as {n = n} {c = c} {ops = ops} {held = held} {s = s} m d more h p q e =
    subst (λ k. HoldsPending k d more held s) p (subst (λ k. HoldsPending n k more held s) q (subst (λ os. HoldsPending n c os held s) e h))

pub pending_own : {P : Type 0} {n c : ℕ} {ops : List Op} {held : List Ticket} (s : SessionState P) → HoldsPending n c ops held s → HoldsPending s.futures.lane s.futures.caller s.pending held s
pending_own s h = pending_as s.futures.lane s.futures.caller s.pending h (sym h.lane) (sym h.caller) (sym h.pending)

pub start_pending : {P : Type 0} {n c : ℕ} (held : List Ticket) (s : SessionState P) → Holds n c [] [] [] s → held ≡ [] → HoldsPending s.futures.lane s.futures.caller s.pending held s
start_pending {n = n} {c = c} held s h e = pending_own s (subst (λ ts. HoldsPending n c [] ts s) (sym e) h)

pub holds_own : {P : Type 0} {n c : ℕ} (s : SessionState P) → Holds n c [] [] [] s → Holds s.futures.lane s.futures.caller [] [] [] s
holds_own {n = n} {c = c} s h = subst (λ k. Holds k s.futures.caller [] [] [] s) (sym h.lane) (subst (λ k. Holds n k [] [] [] s) (sym h.caller) h)

pub holds_as : {P : Type 0} {n c m d : ℕ} {s : SessionState P} → Holds n c [] [] [] s → n ≡ m → c ≡ d → Holds m d [] [] [] s
holds_as {n = n} {c = c} {m = m} {d = d} {s = s} h p q = subst (λ k. Holds k d [] [] [] s) p (subst (λ k. Holds n k [] [] [] s) q h)

pub made_some : {A : Bool → Type 0} (B : Type 0) (r : Option Bool) → is_some r ≡ true → MatchOption r B A → (b : Bool) × A b
made_some B None e h = absurd (cc e)
made_some B (Some b) e h = (b, h)

pub made_none : (A : Bool → Type 0) {B : Type 0} (r : Option Bool) → is_some r ≡ false → MatchOption r B A → B
made_none A None e h = h
made_none A (Some b) e h = absurd (cc e)

-- a round on a session that goes on from what was seen
pub round_from : (file : List JobUnit) (lane c d e : ℕ) (ops wanted : List Op) (saw seen now : List Group) (before after : List Reply) (empty : Bool) → RoundMade file d e ops saw now before after empty → d ≡ lane → e ≡ c → ops ≡ wanted → saw ≡ seen → RoundMade file lane c wanted seen now before after empty
round_from file lane c d e ops wanted saw seen now before after empty r p q o s =
    subst (λ h. RoundMade file lane c wanted h now before after empty) s (round_of file lane c d e ops wanted saw now before after empty r p q o)

pub answered_round : (file : List JobUnit) (lane c : ℕ) (ops : List Op) (one two three : List Group) (before mid after : List Reply) (empty : Bool) → Answered file lane c one two before mid → RoundMade file lane c ops two three mid after empty → Answered file lane c one three before after
answered_round file lane c ops one two three before mid after empty h r = answered-grew file lane c ops r.answers one two three before mid after h r.made r.replied

pub nothing_round : (file : List JobUnit) (lane c : ℕ) (ops : List Op) (one two three : List Group) (before after : List Reply) (empty : Bool) → PutsNothing c one two → enqueued ops ≡ [] → RoundMade file lane c ops two three before after empty → PutsNothing c one three
nothing_round file lane c ops one two three before after empty h none r = nothing_put-grew c ops r.answers one two three h none r.made

pub unit_round : (file : List JobUnit) (lane c first count : ℕ) (one two three : List Group) (before after : List Reply) (empty : Bool) → count ≤ 100 → Tries c one two → PutsNothing c one two → RoundMade file lane c (unit_ops (range_with_len first count)) two three before after empty → PutsUnit first count c one three
unit_round file lane c first count one two three before after empty small tries h r =
    let ops = unit_ops (range_with_len first count) in
    let most = tries-most c one two tries in
    let more = found_at_most c ops r.answers two three r.made in
    let short = unit_short first count small in
    unit_put c first count ops r.answers one two three (omega (arith, most, more, short)) h (λ unit e. ap unit_ops (sym e)) r.made

-- what a round with a batch of dequeues does
pub batch_ends : (file : List JobUnit) (lane batch c : ℕ) (one two three : List Group) (before after : List Reply) (empty : Bool) → 0 < batch → PutsNothing c one two → empty ≡ true → RoundMade file lane c (replicate batch Deq) two three before after empty → EndsLane batch c one three
batch_ends file lane batch c one two three before after empty l h e r =
    round_ends file lane batch c (replicate batch Deq) one two three before after empty (let n = length-replicate batch Deq in omega (arith, n, l)) h refl e r

-- from a round to that of the hand's lane
pub round_as : (file : List JobUnit) (lane c d e : ℕ) (ops : List Op) (seen now : List Group) (before after : List Reply) (empty : Bool) → RoundMade file d e ops seen now before after empty → d ≡ lane → e ≡ c → RoundMade file lane c ops seen now before after empty
round_as file lane c d e ops seen now before after empty r p q = round_of file lane c d e ops ops seen now before after empty r p q refl

pub at_some : (A : Bool → Type 0) (B : Type 0) (r : Option Bool) (b : Bool) → r ≡ Some b → MatchOption r B A → A b
at_some A B r b e h = subst (λ o. MatchOption o B A) e h

pub at_none : (A : Bool → Type 0) (B : Type 0) (r : Option Bool) → r ≡ None → MatchOption r B A → B
at_none A B r e h = subst (λ o. MatchOption o B A) e h

-- what a round came to, on a session that goes on from what was seen
pub came_from : (shape : Shape) (file : List JobUnit) (lane c d e : ℕ) (ops wanted : List Op) (saw seen now : List Group) (before after : List Reply) (came r : Round) → RoundCame shape file d e ops saw now before after came
    → d ≡ lane → e ≡ c → ops ≡ wanted → saw ≡ seen → came ≡ r → RoundCame shape file lane c wanted seen now before after r
came_from shape file lane c d e ops wanted saw seen now before after came r h p q o s same =
    subst (λ n. RoundCame shape file n c wanted seen now before after r) p (subst (λ n. RoundCame shape file d n wanted seen now before after r) q
    (subst (λ os. RoundCame shape file d e os seen now before after r) o (subst (λ h. RoundCame shape file d e ops h now before after r) s (subst (λ x. RoundCame shape file d e ops saw now before after x) same h))))

-- a hand that was refused with Spent stops
pub met_try : (shape : Shape) (c : ℕ) (ops : List Op) (one two three : List Group) → Serves shape → length ops ≤ 256 → PutsNothing c one two → Tries c one two → SawMore c two three → PassesAllowance shape two c ops → MetSpent c one three
met_try shape c ops one two three serves short h tries s passes = record {
  put = (nothing_put-saw_more c one two three h s).put;
  few = let most = tries-most c one two tries in let same = found-saw_more c two three s in omega (arith, most, same);
  spent = nearly_spent shape c ops two three serves short s passes;
}

-- a round leaves less of the allowance
pub less_left : (allowance c : ℕ) (ops : List Op) (answers : List Answer) (one two three : List Group) → SawMore c one two → Grew c ops answers two three → 0 < length ops → made_by two c + length ops ≤ allowance → allowance - made_by three c < allowance - made_by one c
less_left allowance c ops answers one two three s g some within =
    let same = made-saw_more c one two s in
    let more = made-grew c ops answers two three g in
    omega (arith, same, more, some, within)

-- what is held stays where the lane refused
pub still_pending : {P : Type 0} {n c : ℕ} {ops : List Op} (t u : Ticket) (ts : List Ticket) (old new : SessionState P) → HoldsPending n c ops (t ∷ ts) old → new ≡ record old { pass = new.pass } → u ≡ t → HoldsPending new.futures.lane new.futures.caller new.pending (u ∷ ts) new
still_pending {n = n} {c = c} {ops = ops} t u ts old new h e same =
    pending_own new (subst (λ (v : Ticket). HoldsPending n c ops (v ∷ ts) new) (sym same) (held-same old new h (ap (λ (s : SessionState _). s.pending) e) (ap (λ (s : SessionState _). s.futures) e)))
