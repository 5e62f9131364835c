-- From what each hand has seen to the books, which begin with it.
use Rattle.std.proofs.Common.{◌≡◌, ℕ, ◌+◌, ◌==◌, List, [], ◌∷◌, ◌++◌, length, filter, get_or, refl, sym, ap, subst, ◌∙◌, append_assoc, length-append}
use Rattle.std.specs.List.{flat_map, filter_map, range_with_len, AllZip}
use Rattle.job_text.specs.JobFile.{job_at}
use Rattle.bq_model.specs.declared.group.Group.{Group}
use Rattle.bq_model.specs.Own.{mine}
use Rattle.job_text.specs.declared.file.Unit.{Unit as JobUnit}
use Rattle.bulk_dispatcher.specs.declared.reply.Reply.{Reply}
use Rattle.bulk_dispatcher.specs.Books.{Numbered, lanes_of}
use Rattle.bq_model.specs.Grows.{SawMore}
use Rattle.bulk_dispatcher.specs.Hands.{units_of, replies_on, reply_for, HandDid, HandDone}
use Rattle.bulk_dispatcher.proofs.Later.{HandDid-later}
use Rattle.bulk_dispatcher.proofs.Steps.{caught-saw_more}

HandDid-saw_more : (units : List Numbered) (batch c : ℕ) (old new : List Group) → SawMore c old new → HandDid units batch c old → HandDid units batch c new
HandDid-saw_more units batch c old new s h =
    subst (HandDid units batch c) (sym s.grown) (HandDid-later units batch c old s.more (ap (λ x. mine x c) (sym s.grown) ∙ s.own) h)

zip_through : {A B C : Type 0} (R : A → B → Type 0) (S : B → C → Type 0) (Q : A → C → Type 0) → ((x : A) (y : B) (z : C) → R x y → S y z → Q x z) → (xs : List A) (ys : List B) (zs : List C) → AllZip R xs ys → AllZip S ys zs → AllZip Q xs zs
zip_through R S Q f [] [] [] h k = tt
zip_through R S Q f [] [] (z ∷ zs) h k = absurd k
zip_through R S Q f [] (y ∷ ys) zs h k = absurd h
zip_through R S Q f (x ∷ xs) [] zs h k = absurd h
zip_through R S Q f (x ∷ xs) (y ∷ ys) [] h k = absurd k
zip_through R S Q f (x ∷ xs) (y ∷ ys) (z ∷ zs) h k = (f x y z h.0 k.0, zip_through R S Q f xs ys zs h.1 k.1)

same_replies : (file : List JobUnit) (lane c : ℕ) (old new : List Group) → SawMore c old new → replies_on file lane c old ≡ replies_on file lane c new
same_replies file lane c old new s = ap (filter_map (λ x. reply_for lane c x (job_at file x.value))) (sym (caught-saw_more c old new s))

-- What a hand did stays what it did, by the books.
pub HandDone-saw_more : (file : List JobUnit) (hands batch c : ℕ) (seen books : List (List Group)) (replies : List Reply) → AllZip (SawMore c) seen books → HandDone file hands batch c seen replies → HandDone file hands batch c books replies
HandDone-saw_more file hands batch c seen books replies s h = record {
  did = zip_through (λ lane x. HandDid (units_of file hands lane c) batch c x) (SawMore c) (λ lane x. HandDid (units_of file hands lane c) batch c x)
      (λ lane x y d m. HandDid-saw_more (units_of file hands lane c) batch c x y m d) (lanes_of file) seen books h.did s;
  replied = zip_through (λ lane x. filter (λ reply. reply.lane == lane) replies ≡ replies_on file lane c x) (SawMore c) (λ lane x. filter (λ reply. reply.lane == lane) replies ≡ replies_on file lane c x)
      (λ lane x y e m. e ∙ same_replies file lane c x y m) (lanes_of file) seen books h.replied s;
  lanes = h.lanes;
}

element_at : {X : Type 0} (before xs : List X) (x d : X) → get_or (before ++ x ∷ xs) (length before) d ≡ x
element_at [] xs x d = refl
element_at (y ∷ before) xs x d = element_at before xs x d

-- a list piece by piece, by the places of its elements
pub pieces_at : {X Y : Type 0} (f : X → List Y) (d : X) (before xs : List X) → flat_map (λ k. f (get_or (before ++ xs) k d)) (range_with_len (length before) (length xs)) ≡ flat_map f xs
pieces_at f d before [] = refl
pieces_at f d before (x ∷ xs) =
    let next : (before ++ x ∷ []) ++ xs ≡ before ++ x ∷ xs = append_assoc before (x ∷ []) xs in
    ap (λ y. f y ++ flat_map (λ k. f (get_or (before ++ x ∷ xs) k d)) (range_with_len (length before + 1) (length xs))) (element_at before xs x d)
    ∙ ap (λ ys. f x ++ ys)
    (ap (λ zs. flat_map (λ k. f (get_or zs k d)) (range_with_len (length before + 1) (length xs))) (sym next)
    ∙ ap (λ n. flat_map (λ k. f (get_or ((before ++ x ∷ []) ++ xs) k d)) (range_with_len n (length xs))) (sym (length-append before (x ∷ [])))
    ∙ pieces_at f d (before ++ x ∷ []) xs)
