mod WayLaws
