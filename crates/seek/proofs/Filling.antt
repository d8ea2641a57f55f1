-- A device filled run by run.
use Rattle.std.proofs.Common.{◌≡◌, ℕ, ◌+◌, ◌<◌, false, List, [], ◌∷◌, ◌++◌, length, get_or, take, Ok, Err, sum_by, Result, sym, refl, ap, ◌∙◌, subst, arith, MatchResult}
use Rattle.std.specs.Result.{is_err}
use Rattle.std.proofs.lemmas.List.{append_assoc, take_more}
use Rattle.std.proofs.lemmas.List.Sums.{sum_by-append}
use Rattle.values.specs.declared.io.Run.{Run}
use Rattle.device.specs.Meaning.{Meaning, Put}
use Rattle.seek.specs.Courses.{PutAll, Joined}

put_last : {D : Type 0} (puts : D → Run → D → Type 0) (d : D) (runs : List Run) (e : D) (run : Run) (f : D) → PutAll puts d runs e → puts e run f → PutAll puts d (runs ++ run ∷ []) f
put_last puts d [] e run f h p = (f, subst (λ x. puts x run f) h p, refl)
put_last puts d (x ∷ runs) e run f h p = (h.0, h.1, put_last puts h.0 runs e run f h.2 p)

joined_last : (m : Meaning) (runs : List Run) (n : Meaning) (run : Run) (p : Meaning) → Joined m runs n → Put n run p → Joined m (runs ++ run ∷ []) p
joined_last m runs n run p h g = record {
  working = λ weight.
      let a = ap (sum_by weight) (append_assoc m.working runs (run ∷ [])) in
      let b = sum_by-append weight (m.working ++ runs) (run ∷ []) in
      let c = sum_by-append weight n.working (run ∷ []) in
      let e = h.working weight in
      let f = g.working weight in
      omega arith;
  done = λ weight. h.done weight ∙ g.done weight;
  depth = g.depth ∙ h.depth;
}

-- what a device says of a put, where it took the run and where it did not
pub took : {A E : Type 0} (P Q : Type 0) (r : Result A E) → MatchResult r (λ _. P) (λ _. Q) → is_err r ≡ false → P
took P Q (Ok x) h e = h
took P Q (Err x) h e = absurd (cc)

-- the first i runs were put
pub record Filling {D : Type 0} (means : D → Meaning) (puts : D → Run → D → Type 0) (d : D) (runs : List Run) (i : ℕ) (e : D) : Type 0 where
  pub exact : PutAll puts d (take i runs) e
  pub meant : Joined (means d) (take i runs) (means e)

module _ {D : Type 0} (means : D → Meaning) (puts : D → Run → D → Type 0) (d : D) (runs : List Run) where
  pub filling_more : (i : ℕ) (e : D) (run : Run) (f : D) → i < length runs → run ≡ get_or runs i run → Filling means puts d runs i e → puts e run f → Put (means e) run (means f) → Filling means puts d runs (i + 1) f
  filling_more i e run f lt is h p g =
      let more : take i runs ++ run ∷ [] ≡ take (i + 1) runs = ap (λ x. take i runs ++ x ∷ []) is ∙ sym (take_more runs i run lt) in
      record {
        exact = subst (λ xs. PutAll puts d xs f) more (put_last puts d (take i runs) e run f h.exact p);
        meant = subst (λ xs. Joined (means d) xs (means f)) more (joined_last (means d) (take i runs) (means e) run (means f) h.meant g);
      }
