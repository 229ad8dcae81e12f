-- Writing to a log, several times over. Assumes nothing.
use Rattle.std.proofs.Common.{List, [], ◌++◌, refl, sym, ◌∙◌, ap}
use Rattle.std.proofs.lemmas.List.Sums.{fold-append}
use Rattle.host_log.specs.declared.Log.{Log}
use Rattle.host_log.specs.Lent.{Appends, held}
use Rattle.host_log.specs.Records.{pushed, appended}

-- a log to which nothing was written
pub appends_none : {T : Type 0} (l : Log T) → Appends l l []
appends_none l = record { held = refl; lent = refl }

-- a log that was written to, and then again
pub appends_more : {T : Type 0} {l m n : Log T} {xs ys : List T} → Appends l m xs → Appends m n ys → Appends l n (xs ++ ys)
appends_more {l = l} {xs = xs} {ys = ys} a b = record {
  held = b.held ∙ ap (λ h. appended h ys) a.held ∙ sym (fold-append pushed (held l) xs ys);
  lent = b.lent ∙ a.lent;
}
