mod HistoryLaws
